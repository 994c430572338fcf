use Rattle.std.proofs.Common.{◌<◌, length}
use Rattle.term_pool.specs.Pool.{Extends, tree}
use Rattle.core_terms.specs.Solutions.{solved_in}
use Rattle.weak_head.specs.Pending.{Comes}
use Rattle.weak_head.proofs.Hops.{hops}
use Rattle.weak_head.proofs.resolve.resolve.Given as goal

abbrev pub invariant-loop-meta : goal.invariant-loop-meta
invariant-loop-meta g l = record {
  extends : Extends l.fn.pool l.pool;
  within : l.at < length l.pool.trees;
  comes : Comes (solved_in l.fn.pool (g.S.Solutions.solution l.sol)) (tree l.fn.pool l.fn.t) (tree l.pool l.at);
}

abbrev pub decreases-loop-meta : goal.decreases-loop-meta
decreases-loop-meta g l = hops (solved_in l.fn.pool (g.S.Solutions.solution l.sol)) l.fn.pool.trees (tree l.pool l.at)
