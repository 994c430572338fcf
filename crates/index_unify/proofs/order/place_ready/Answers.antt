use Rattle.std.specs.Prelude.{◌<◌, false, map, set, IfSome, refl}
use Rattle.std.specs.List.{AllByRecursion}
use Rattle.std.proofs.Common.{arith, sym, ap, subst, ◌∙◌}
use Rattle.el_base.proofs.Throughout.{all-push}
use Rattle.unify_rules.specs.Joined.{first_ready}
use Rattle.term_pool.specs.Pool.{tree}
use Rattle.index_unify.specs.Order.{waiting}
use Rattle.index_unify.proofs.Waits.{marks_stay, placed_next, placed_stops, placed_all}
use Rattle.index_unify.proofs.order.place_ready.Goals as goal

pub loop-turn-preserved : goal.loop-turn-preserved
loop-turn-preserved c =
    let n = c.args.count in
    let ts = map (tree c.args.pool.now) c.args.types.now in
    let ws = c.loop-turn.waits.items in
    let ps = c.loop-turn.placed.items in
    let v = c.in-Some.var in
    let i = c.loop-turn.invariant in
    let b : v < n = subst (λ o. IfSome o (λ i. i < n)) c.in-Some.is c.in_ok-var.ensures.below in
    let f = sym c.in-Some.is ∙ (c.in_ok-var.ensures.is ∙ ap (λ ws. first_ready ts (waiting ws n) (waiting ws n)) c.as_slice.ensures.value) in
    record {
      waits = marks_stay ws v n i.waits;
      below = subst (AllByRecursion (λ i. i < n)) (sym c.in_ok-push.ensures.items) (all-push (λ i. i < n) ps v i.below b);
      is = placed_next ts ws ps _ n c.loop-turn._turn i.is (set ws v false) c.push.new.self.items v c.loop-turn-test.true (omega (arith, b, i.waits)) f refl c.in_ok-push.ensures.items;
    }

pub returns-clause-is : goal.returns-clause-is
returns-clause-is c =
    placed_all (map (tree c.args.pool.now) c.args.types.now) c.loop-turn.waits.items c.loop-turn.placed.items _ c.args.count c.loop-turn._turn c.loop-turn.invariant.is (omega (arith, c.loop-turn-test.false))

pub returns-in_default-clause-is : goal.returns-in_default-clause-is
returns-in_default-clause-is c =
    let n = c.args.count in
    let ts = map (tree c.args.pool.now) c.args.types.now in
    placed_stops ts c.loop-turn.waits.items c.loop-turn.placed.items _ n c.loop-turn._turn c.loop-turn.invariant.is
    (sym c.in_default.is ∙ (c.in_ok-var.ensures.is ∙ ap (λ ws. first_ready ts (waiting ws n) (waiting ws n)) c.as_slice.ensures.value))
