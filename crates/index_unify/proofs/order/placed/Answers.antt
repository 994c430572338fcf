use Rattle.std.specs.Prelude.{◌<◌, [], map, reverse}
use Rattle.std.specs.List.{AllByRecursion}
use Rattle.std.proofs.Common.{arith, sym, ap, subst, ◌∙◌}
use Rattle.el_base.proofs.Throughout.{all-append}
use Rattle.unify_rules.specs.Joined.{order, reverse_onto}
use Rattle.term_pool.specs.Pool.{tree}
use Rattle.index_unify.specs.Order.{waiting}
use Rattle.index_unify.proofs.Waits.{placed_last, waiting_below}
use Rattle.index_unify.proofs.order.placed.Goals as goal

pub place_ready-requires-clause-waits : goal.place_ready-requires-clause-waits
place_ready-requires-clause-waits c = sym c.in_ok-waits.ensures.count

pub place_ready-requires-clause-placed : goal.place_ready-requires-clause-placed
place_ready-requires-clause-placed c = subst (AllByRecursion (λ i. i < c.args.count)) (sym c.new-placed.ensures.items) tt

pub returns-clause-below : goal.returns-clause-below
returns-clause-below c =
    let ws = c.as_slice.result.now in
    subst (AllByRecursion (λ i. i < c.args.count)) (sym c.in_ok-place_rest.ensures)
    (all-append (λ i. i < c.args.count) c.place_ready.new.placed.items (waiting ws c.args.count) c.in_ok-place_ready.ensures.below (waiting_below ws c.args.count c.args.count (omega arith)))

pub returns-clause-is : goal.returns-clause-is
returns-clause-is c =
    let p = c.args.pool.now in
    let n = c.args.count in
    let ts = map (tree p) c.args.types.now in
    let ps = c.place_ready.new.placed.items in
    ap reverse c.in_ok-place_rest.ensures
    ∙ (placed_last ps (waiting c.as_slice.result.now n)
    ∙ (ap (λ ws. reverse_onto (waiting ws n) (reverse ps)) c.as_slice.ensures.value
    ∙ (c.in_ok-place_ready.ensures.is
    ∙ (ap (λ ks. order n ts (waiting c.in_ok-waits.waits.items n) (reverse ks)) c.new-placed.ensures.items
    ∙ ap (λ w. order n ts w []) (c.in_ok-waits.ensures.is p)))))
