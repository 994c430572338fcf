use Rattle.std.specs.Prelude.{◌≡◌, ◌<◌, ◌-◌, length, map, reverse}
use Rattle.std.specs.List.{AllByRecursion}
use Rattle.unify_rules.specs.Joined.{order}
use Rattle.term_pool.specs.Pool.{tree}
use Rattle.index_unify.specs.Order.{waiting}
use Rattle.index_unify.proofs.order.place_ready.Given as goal

abbrev pub invariant-loop-turn : goal.invariant-loop-turn
invariant-loop-turn l = record {
  waits : l.count ≡ length l.waits.items;
  below : AllByRecursion (λ i. i < l.count) l.placed.items;
  is : order (l.count - l._turn) (map (tree l.pool) l.types) (waiting l.waits.items l.count) (reverse l.placed.items) ≡ order l.count (map (tree l.pool) l.types) (waiting l.fn.waits.items l.count) (reverse l.fn.placed.items);
}
