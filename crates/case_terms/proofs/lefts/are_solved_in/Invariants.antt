use Rattle.std.proofs.Common.{◌<◌, length}
use Rattle.std.specs.List.{AllByRecursion}
use Rattle.case_terms.proofs.lefts.are_solved_in.Given as goal

abbrev pub invariant-loop-left : goal.invariant-loop-left
invariant-loop-left l =
    AllByRecursion (λ s. (s.value < length l.pool.trees) × (s.ty < length l.pool.trees)) l.left
    → AllByRecursion (λ s. (s.value < length l.pool.trees) × (s.ty < length l.pool.trees)) l.named

abbrev pub decreases-loop-left : goal.decreases-loop-left
decreases-loop-left l = length l.left
