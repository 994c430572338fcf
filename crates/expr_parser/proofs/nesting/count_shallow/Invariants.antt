use Rattle.std.proofs.Common.{◌≡◌, ◌+◌, drop}
use Rattle.agda_grammar.specs.Nesting as spec
use Rattle.expr_parser.specs.NestingView.{depth_of}
use Rattle.expr_parser.proofs.nesting.count_shallow.Given as goal

abbrev pub invariant-loop-i : goal.invariant-loop-i
invariant-loop-i l = l.i + spec.shallow (depth_of l.depth) (drop l.i l.signs) ≡ spec.shallow spec.origin l.signs
