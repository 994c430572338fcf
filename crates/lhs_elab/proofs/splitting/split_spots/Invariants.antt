use Rattle.std.proofs.Common.{◌≡◌, ◌++◌, length, map}
use Rattle.std.specs.List.{AllByRecursion}
use Rattle.core_rules.specs.Term.{Term}
use Rattle.core_rules.specs.Signature.{Context}
use Rattle.core_rules.specs.Mapped.{branch_map}
use Rattle.term_pool.specs.Pool.{Extends, tree}
use Rattle.index_unify.specs.Unified.{context_in}
use Rattle.lhs_rules.specs.Spots.{split_spot}
use Rattle.lhs_elab.specs.Lefts.{SpotBelow, spot_in}
use Rattle.lhs_elab.specs.Moving.{moved_by}
use Rattle.lhs_elab.proofs.splitting.split_spots.Given as goal

abbrev pub invariant-loop-left : goal.invariant-loop-left
invariant-loop-left l = record {
  extends : Extends l.fn.pool l.pool;
  below : AllByRecursion (SpotBelow (length l.pool.trees) (length l.fn.branch.context)) l.made.items;
  left : AllByRecursion (SpotBelow (length l.fn.pool.trees) l.fn.count) l.left;
  is : (c : Context Term) → length c ≡ l.fn.count
      → map (spot_in (tree l.pool)) l.made.items ++ map (split_spot c l.fn.split l.fn.new (context_in l.fn.pool l.fn.context) (branch_map (tree l.fn.pool) l.fn.branch) (moved_by (tree l.fn.pool) l.fn.by)) (map (spot_in (tree l.fn.pool)) l.left)
      ≡ map (split_spot c l.fn.split l.fn.new (context_in l.fn.pool l.fn.context) (branch_map (tree l.fn.pool) l.fn.branch) (moved_by (tree l.fn.pool) l.fn.by)) (map (spot_in (tree l.fn.pool)) l.fn.spots);
}

abbrev pub decreases-loop-left : goal.decreases-loop-left
decreases-loop-left l = length l.left
