use Rattle.std.specs.Prelude.{length}
use Rattle.term_pool.specs.Pool.{Extends}
use Rattle.tree_kernel.proofs.Lists.{Raises}
use Rattle.tree_kernel.proofs.environment.put_raised.Given as goal

abbrev pub invariant-loop-left : goal.invariant-loop-left
invariant-loop-left l = record {
  extends : Extends l.fn.pool l.pool;
  raises : Raises l.fn.pool l.pool l.by l.fn.list.items l.list.items l.fn.terms l.left;
}

abbrev pub decreases-loop-left : goal.decreases-loop-left
decreases-loop-left l = length l.left
