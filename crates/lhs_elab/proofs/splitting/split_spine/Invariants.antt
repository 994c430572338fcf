use Rattle.std.proofs.Common.{◌≡◌, ◌++◌, length, map}
use Rattle.std.specs.List.{AllByRecursion}
use Rattle.term_pool.specs.Pool.{Extends, tree}
use Rattle.weak_head.specs.Elims.{Below}
use Rattle.lhs_elab.specs.declared.left.Taken.{Taken}
use Rattle.lhs_elab.specs.Lefts.{taken_in}
use Rattle.lhs_elab.specs.Moving.{moved_by, taken_into}
use Rattle.lhs_elab.proofs.splitting.split_spine.Given as goal

abbrev pub invariant-loop-left : goal.invariant-loop-left
invariant-loop-left l = record {
  extends : Extends l.fn.pool l.pool;
  below : AllByRecursion (λ (e : Taken). Below (length l.pool.trees) e.elim) l.made.items;
  left : AllByRecursion (λ (e : Taken). Below (length l.fn.pool.trees) e.elim) l.left;
  is : map (taken_in (tree l.pool)) l.made.items ++ map (taken_into (moved_by (tree l.fn.pool) l.fn.by) l.fn.count l.fn.kept) (map (taken_in (tree l.fn.pool)) l.left)
      ≡ map (taken_into (moved_by (tree l.fn.pool) l.fn.by) l.fn.count l.fn.kept) (map (taken_in (tree l.fn.pool)) l.fn.spine);
}

abbrev pub decreases-loop-left : goal.decreases-loop-left
decreases-loop-left l = length l.left
