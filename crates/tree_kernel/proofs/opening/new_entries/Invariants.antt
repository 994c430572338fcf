use Rattle.std.specs.Prelude.{length}
use Rattle.term_pool.specs.Pool.{Extends}
use Rattle.tree_kernel.proofs.Entries.{Enters}
use Rattle.tree_kernel.proofs.opening.new_entries.Given as goal

abbrev pub invariant-loop-left : goal.invariant-loop-left
invariant-loop-left l = record {
  extends : Extends l.fn.pool l.pool;
  enters : Enters l.fn.pool l.pool l.params l.fn.entries l.left l.made.items l.count;
}

abbrev pub decreases-loop-left : goal.decreases-loop-left
decreases-loop-left l = length l.left
