use Rattle.std.specs.Prelude.{◌≡◌, length}
use Rattle.term_pool.specs.Pool.{Pool}
use Rattle.unify_rules.specs.Joined.{unsolved}
use Rattle.index_unify.specs.State.{solutions_of}
use Rattle.index_unify.specs.Order.{waiting}
use Rattle.index_unify.proofs.order.unsolved.Given as goal

abbrev pub invariant-loop-var : goal.invariant-loop-var
invariant-loop-var l = record {
  count : length l.waits.items ≡ l.var;
  is : (p : Pool) → waiting l.waits.items l.var ≡ unsolved (solutions_of p l.solutions) l.var;
}
