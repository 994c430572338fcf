use Rattle.term_pool.specs.Pool.{Extends}
use Rattle.tree_kernel.proofs.Openings.{Opens}
use Rattle.tree_kernel.proofs.opening.opened.Given as goal

abbrev pub invariant-loop-at : goal.invariant-loop-at
invariant-loop-at l = record {
  extends : Extends l.fn.pool l.pool;
  opens : Opens l.fn.pool l.pool l.context l.entries l.u l.before l.at l.made.items;
}
