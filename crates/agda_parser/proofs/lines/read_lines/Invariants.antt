use Rattle.std.proofs.Common.{◌≡◌, ◌-◌}
use Rattle.parse_laws.specs.Parser.{many_from}
use Rattle.agda_parser.proofs.lines.read_lines.Given as goal

abbrev pub invariant-loop-turn : goal.invariant-loop-turn
invariant-loop-turn g l = many_from (λ _. g.T.Line.next l.text l.turns) l.turns l.fn.found l.fn.signs ≡ many_from (λ _. g.T.Line.next l.text l.turns) (l.turns - l._turn) l.found l.signs
