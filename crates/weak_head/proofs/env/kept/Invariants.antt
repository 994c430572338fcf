use Rattle.std.proofs.Common.{◌≡◌, ◌≤◌, length, map, drop}
use Rattle.core_rules.specs.Substitution.{value_at}
use Rattle.term_pool.specs.Pool.{Extends, tree}
use Rattle.weak_head.specs.Elims.{env_in}
use Rattle.weak_head.specs.States.{Ids}
use Rattle.weak_head.proofs.env.kept.Given as goal

abbrev pub invariant-loop-left : goal.invariant-loop-left
invariant-loop-left l = record {
  extends : Extends l.fn.pool l.pool;
  below : Ids (length l.pool.trees) l.all.items;
  within : l.left ≤ length l.keep;
  is : env_in (tree l.pool) l.all.items ≡ map (value_at (env_in (tree l.fn.pool) l.env)) (drop l.left l.keep);
}

abbrev pub decreases-loop-left : goal.decreases-loop-left
decreases-loop-left l = l.left
