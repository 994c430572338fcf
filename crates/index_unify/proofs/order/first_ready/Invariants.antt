use Rattle.std.specs.Prelude.{◌≡◌, ◌≤◌, map}
use Rattle.unify_rules.specs.Joined.{first_ready}
use Rattle.term_pool.specs.Pool.{tree}
use Rattle.index_unify.specs.Order.{waiting}
use Rattle.index_unify.proofs.order.first_ready.Given as goal

abbrev pub invariant-loop-var : goal.invariant-loop-var
invariant-loop-var l = record {
  within : l.var ≤ l.count;
  is : first_ready (map (tree l.pool) l.types) (waiting l.waits l.count) (waiting l.waits l.count) ≡ first_ready (map (tree l.pool) l.types) (waiting l.waits l.count) (waiting l.waits l.var);
}

abbrev pub decreases-loop-var : goal.decreases-loop-var
decreases-loop-var l = l.var
