use Rattle.std.specs.Prelude.{◌≡◌, ◌<◌, ◌≤◌, length, map, reverse, drop}
use Rattle.core_rules.specs.Term.{Term}
use Rattle.core_rules.specs.Mapped.{AllEntries, telescope_map}
use Rattle.unify_rules.specs.Joined.{entries_of}
use Rattle.term_pool.specs.Pool.{Extends, tree}
use Rattle.index_unify.specs.Unified.{context_in}
use Rattle.index_unify.proofs.branch.entries.Given as goal

abbrev pub invariant-loop-left : goal.invariant-loop-left
invariant-loop-left l = record {
  extends : Extends l.fn.pool l.pool;
  within : l.left ≤ length l.keep;
  below : AllEntries (λ i. i < length l.pool.trees) l.all.items;
  is : (h : Term → Term) → telescope_map (tree l.pool) l.all.items ≡ reverse (entries_of (telescope_map h (context_in l.fn.pool l.old)) (map (tree l.fn.pool) l.types) (drop l.left l.keep));
}

abbrev pub decreases-loop-left : goal.decreases-loop-left
decreases-loop-left l = l.left
