use Rattle.std.proofs.Common.{◌≡◌, ◌<◌, ◌≤◌, ℕ, length}
use Rattle.std.specs.List.{AllByRecursion}
use Rattle.term_pool.specs.Pool.{Pool}
use Rattle.unify_rules.specs.Joined.{value_of}
use Rattle.index_unify.specs.State.{solutions_of}
use Rattle.index_unify.proofs.order.value_of.Given as goal

abbrev pub invariant-loop-left : goal.invariant-loop-left
invariant-loop-left l = record {
  among : (n : ℕ) → AllByRecursion (λ s. s.value < n) l.fn.solutions → AllByRecursion (λ s. s.value < n) l.left;
  is : (p : Pool) → value_of (solutions_of p l.fn.solutions) l.fn.var ≡ value_of (solutions_of p l.left) l.fn.var;
  few : length l.left ≤ length l.fn.solutions;
}

abbrev pub decreases-loop-left : goal.decreases-loop-left
decreases-loop-left l = length l.left
