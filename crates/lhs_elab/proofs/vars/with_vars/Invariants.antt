use Rattle.std.proofs.Common.{◌≡◌, ◌<◌, ◌++◌, length, map}
use Rattle.std.specs.List.{AllByRecursion}
use Rattle.core_rules.specs.TypedTree.{vars}
use Rattle.term_pool.specs.Pool.{Extends, tree}
use Rattle.lhs_elab.proofs.vars.with_vars.Given as goal

abbrev pub invariant-loop-left : goal.invariant-loop-left
invariant-loop-left l = record {
  extends : Extends l.fn.pool l.pool;
  below : AllByRecursion (λ t. t < length l.pool.trees) l.made.items;
  is : map (tree l.pool) l.made.items ++ vars l.at l.left ≡ map (tree l.fn.pool) l.fn.terms.items ++ vars l.fn.from l.fn.count;
}

abbrev pub decreases-loop-left : goal.decreases-loop-left
decreases-loop-left l = l.left
