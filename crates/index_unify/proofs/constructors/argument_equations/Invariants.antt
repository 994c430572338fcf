use Rattle.std.specs.Prelude.{length}
use Rattle.index_unify.proofs.Paired.{Paired}
use Rattle.index_unify.proofs.constructors.argument_equations.Given as goal

abbrev pub invariant-loop-xs : goal.invariant-loop-xs
invariant-loop-xs l = Paired l.fn.left l.fn.right l.xs l.ys l.made.items

abbrev pub decreases-loop-xs : goal.decreases-loop-xs
decreases-loop-xs l = length l.xs
