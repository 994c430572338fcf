use Rattle.std.proofs.Common.{◌≡◌, ◌≤◌, ◌+◌, ◌++◌, length, map}
use Rattle.std.specs.List.{AllByRecursion}
use Rattle.core_rules.specs.Mapped.{branch_map}
use Rattle.term_pool.specs.Pool.{Extends, tree}
use Rattle.index_unify.specs.Unified.{context_in}
use Rattle.lhs_rules.specs.Spots.{branch_spots}
use Rattle.lhs_elab.specs.Lefts.{SpotBelow, spot_in}
use Rattle.lhs_elab.proofs.branch.with_branch_spots.Given as goal

abbrev pub invariant-loop-left : goal.invariant-loop-left
invariant-loop-left l = record {
  extends : Extends l.fn.pool l.pool;
  below : AllByRecursion (SpotBelow (length l.pool.trees) (length l.fn.branch.context)) l.made.items;
  within : l.at + l.left ≤ length l.fn.context;
  is : map (spot_in (tree l.pool)) l.made.items ++ branch_spots (context_in l.fn.pool l.fn.context) (branch_map (tree l.fn.pool) l.fn.branch) l.at l.left
      ≡ map (spot_in (tree l.fn.pool)) l.fn.spots.items ++ branch_spots (context_in l.fn.pool l.fn.context) (branch_map (tree l.fn.pool) l.fn.branch) l.fn.from l.fn.count;
}

abbrev pub decreases-loop-left : goal.decreases-loop-left
decreases-loop-left l = l.left
