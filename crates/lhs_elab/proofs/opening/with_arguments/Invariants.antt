use Rattle.std.proofs.Common.{◌≡◌, ◌<◌, ◌++◌, length, map}
use Rattle.core_rules.specs.Mapped.{AllEntries, telescope_map}
use Rattle.core_rules.specs.TypedTree.{entries_under}
use Rattle.term_pool.specs.Pool.{Extends, tree}
use Rattle.lhs_elab.proofs.opening.with_arguments.Given as goal

abbrev pub invariant-loop-left : goal.invariant-loop-left
invariant-loop-left l = record {
  extends : Extends l.fn.pool l.pool;
  below : AllEntries (λ t. t < length l.pool.trees) l.made.items;
  left : AllEntries (λ t. t < length l.fn.pool.trees) l.left;
  is : telescope_map (tree l.pool) l.made.items ++ entries_under (map (tree l.fn.pool) l.fn.params) l.before (telescope_map (tree l.fn.pool) l.left)
      ≡ telescope_map (tree l.fn.pool) l.fn.entries.items ++ entries_under (map (tree l.fn.pool) l.fn.params) 0 (telescope_map (tree l.fn.pool) l.fn.arguments);
}

abbrev pub decreases-loop-left : goal.decreases-loop-left
decreases-loop-left l = length l.left
