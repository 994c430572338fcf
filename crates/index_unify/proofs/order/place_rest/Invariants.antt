use Rattle.std.specs.Prelude.{◌≡◌, ◌≤◌, ◌++◌}
use Rattle.index_unify.specs.Order.{waiting}
use Rattle.index_unify.proofs.order.place_rest.Given as goal

abbrev pub invariant-loop-var : goal.invariant-loop-var
invariant-loop-var l = record {
  within : l.var ≤ l.count;
  is : l.placed.items ++ waiting l.waits l.var ≡ l.fn.placed.items ++ waiting l.waits l.count;
}

abbrev pub decreases-loop-var : goal.decreases-loop-var
decreases-loop-var l = l.var
