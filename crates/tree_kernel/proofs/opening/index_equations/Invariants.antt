use Rattle.std.specs.Prelude.{length}
use Rattle.term_pool.specs.Pool.{Extends}
use Rattle.tree_kernel.specs.Stand.{Stand}
use Rattle.tree_kernel.proofs.Equations.{Equates, env_of}
use Rattle.tree_kernel.proofs.opening.index_equations.Given as goal

abbrev pub invariant-loop-lefts : goal.invariant-loop-lefts
invariant-loop-lefts l = record {
  extends : Extends l.fn.pool l.pool;
  env : Stand l.pool l.env.items (env_of l.fn.pool l.split.params.items l.count);
  equates : Equates l.fn.pool l.pool l.split.params.items l.count l.split.var l.by l.con.indices l.split.indices.items l.lefts l.rights l.made.items;
}

abbrev pub decreases-loop-lefts : goal.decreases-loop-lefts
decreases-loop-lefts l = length l.lefts
