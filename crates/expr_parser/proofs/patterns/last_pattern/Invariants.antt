use Rattle.std.proofs.Common.{◌≡◌, drop}
use Rattle.agda_grammar.specs.Patterns.{last_pattern}
use Rattle.expr_parser.proofs.patterns.last_pattern.Given as goal

abbrev pub invariant-loop-pattern : goal.invariant-loop-pattern
invariant-loop-pattern l = last_pattern l.last (drop l.pattern-index l.patterns) ≡ last_pattern l.fn.place l.patterns
