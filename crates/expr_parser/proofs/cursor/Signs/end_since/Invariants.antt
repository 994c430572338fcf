use Rattle.std.proofs.Common.{◌≡◌, ◌-◌, length, take, drop}
use Rattle.agda_grammar.specs.Declarations.{last_end}
use Rattle.expr_parser.proofs.cursor.Signs.end_since.Given as goal

abbrev pub invariant-loop-sign : goal.invariant-loop-sign
invariant-loop-sign l = last_end l.last (drop l.sign-index (take (length l.before - length l.self) l.before)) ≡ last_end l.fn.end (take (length l.before - length l.self) l.before)
