use Rattle.std.proofs.Common.{◌≡◌, ◌≤◌, length, drop, min}
use Rattle.std.specs.Str.{chars}
use Rattle.agda_lexer.specs.Runs.{number_from}
use Rattle.agda_lexer.proofs.run.number.Given as goal

abbrev pub invariant-loop-c : goal.invariant-loop-c
invariant-loop-c l = (l.n ≤ 1000001) × (min (number_from l.base l.n (drop (length l.yielded) (chars l.digits))) 1000001 ≡ min (number_from l.base 0 (chars l.digits)) 1000001)
