use Rattle.std.proofs.Common.{◌≡◌, ◌+◌, ◌*◌, ◌-◌}
use Rattle.expr_parser.specs.PatternSyntax.{pattern, one_elim, elims}
use Rattle.parse_laws.specs.Parser.{many_from}
use Rattle.expr_parser.proofs.patterns.+pattern.Given as goal

abbrev pub decreases-round_pattern : goal.decreases-round_pattern
decreases-round_pattern l = 8 * l.turns + 1

abbrev pub decreases-braced_elim : goal.decreases-braced_elim
decreases-braced_elim l = 8 * l.turns + 1

abbrev pub decreases-one_elim : goal.decreases-one_elim
decreases-one_elim l = 8 * l.turns + 2

abbrev pub decreases-read_elims : goal.decreases-read_elims
decreases-read_elims l = 8 * l.turns + 3

abbrev pub decreases-pattern_level : goal.decreases-pattern_level
decreases-pattern_level l = 8 * l.turns + 4

abbrev pub decreases-pattern : goal.decreases-pattern
decreases-pattern l = 8 * l.turns + 0

abbrev pub invariant-read_elims-loop-turn : goal.invariant-read_elims-loop-turn
invariant-read_elims-loop-turn l = elims l.text l.turns (pattern l.text l.turns) l.fn.signs ≡ many_from (λ _. one_elim l.text l.turns (pattern l.text l.turns)) (l.turns - l._turn) l.found l.signs
