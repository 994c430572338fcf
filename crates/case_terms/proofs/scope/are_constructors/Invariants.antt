use Rattle.std.proofs.Common.{length}
use Rattle.std.specs.List.{AllByRecursion}
use Rattle.case_terms.specs.Standing.{ConIn}
use Rattle.case_terms.proofs.scope.are_constructors.Given as goal

abbrev pub invariant-loop-left : goal.invariant-loop-left
invariant-loop-left l = AllByRecursion (ConIn l.pool) l.left → AllByRecursion (ConIn l.pool) l.cons

abbrev pub decreases-loop-left : goal.decreases-loop-left
decreases-loop-left l = length l.left
