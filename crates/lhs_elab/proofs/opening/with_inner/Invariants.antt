use Rattle.std.proofs.Common.{◌≡◌, ◌<◌, ◌++◌, length}
use Rattle.core_rules.specs.Mapped.{AllEntries, telescope_map}
use Rattle.term_pool.specs.Pool.{Extends, tree}
use Rattle.lhs_elab.specs.Opening.{inner_under}
use Rattle.lhs_elab.proofs.opening.with_inner.Given as goal

abbrev pub invariant-loop-left : goal.invariant-loop-left
invariant-loop-left l = record {
  extends : Extends l.fn.pool l.pool;
  below : AllEntries (λ t. t < length l.pool.trees) l.made.items;
  left : AllEntries (λ t. t < length l.fn.pool.trees) l.left;
  is : telescope_map (tree l.pool) l.made.items ++ inner_under (tree l.fn.pool l.fn.term) l.fn.new l.fn.outer l.at (telescope_map (tree l.fn.pool) l.left)
      ≡ telescope_map (tree l.fn.pool) l.fn.entries.items ++ inner_under (tree l.fn.pool l.fn.term) l.fn.new l.fn.outer 0 (telescope_map (tree l.fn.pool) l.fn.inner);
}

abbrev pub decreases-loop-left : goal.decreases-loop-left
decreases-loop-left l = length l.left
