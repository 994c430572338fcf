use Rattle.std.proofs.Common.{◌≡◌, ◌<◌, length, map}
use Rattle.std.specs.List.{AllByRecursion}
use Rattle.core_rules.specs.Elimination.{elims}
use Rattle.term_pool.specs.Pool.{Extends, tree}
use Rattle.weak_head.specs.Elims.{Below}
use Rattle.lhs_elab.specs.declared.left.Taken.{Taken}
use Rattle.lhs_elab.specs.Lefts.{taken_in}
use Rattle.lhs_elab.specs.Moving.{raised_to}
use Rattle.lhs_elab.proofs.term.at_spine.Given as goal

abbrev pub invariant-loop-left : goal.invariant-loop-left
invariant-loop-left l = record {
  extends : Extends l.fn.pool l.pool;
  within : l.made < length l.pool.trees;
  below : AllByRecursion (λ (e : Taken). Below (length l.fn.pool.trees) e.elim) l.left;
  is : elims (tree l.pool l.made) (map (raised_to l.fn.count) (map (taken_in (tree l.fn.pool)) l.left)) ≡ elims (tree l.fn.pool l.fn.head) (map (raised_to l.fn.count) (map (taken_in (tree l.fn.pool)) l.fn.spine));
}

abbrev pub decreases-loop-left : goal.decreases-loop-left
decreases-loop-left l = length l.left
