use Rattle.term_pool.specs.Pool.{Extends}
use Rattle.core_rules.specs.TypedTree.{vars}
use Rattle.tree_kernel.specs.Stand.{Stand}
use Rattle.tree_kernel.proofs.environment.variables.Given as goal

abbrev pub invariant-loop-i : goal.invariant-loop-i
invariant-loop-i l = record {
  extends : Extends l.fn.pool l.pool;
  stand : Stand l.pool l.all.items (vars l.from l.i);
}
