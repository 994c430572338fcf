use Rattle.std.proofs.Common.{length}
use Rattle.std.specs.List.{AllByRecursion}
use Rattle.index_unify.specs.Unified.{EquationStands}
use Rattle.unify_cases.proofs.world.are_equations.Given as goal

abbrev pub invariant-loop-left : goal.invariant-loop-left
invariant-loop-left l = AllByRecursion (EquationStands (length l.pool.trees)) l.left → AllByRecursion (EquationStands (length l.pool.trees)) l.equations

abbrev pub decreases-loop-left : goal.decreases-loop-left
decreases-loop-left l = length l.left
