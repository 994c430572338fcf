use Rattle.std.proofs.Common.{◌≡◌, ◌-◌}
use Rattle.expr_parser.specs.Syntax.{names, one_name}
use Rattle.parse_laws.specs.Parser.{many_from}
use Rattle.expr_parser.proofs.names.read_names.Given as goal

abbrev pub invariant-loop-turn : goal.invariant-loop-turn
invariant-loop-turn l = names l.text l.turns l.fn.found l.fn.signs ≡ many_from (λ _. one_name l.text) (l.turns - l._turn) l.found l.signs
