use Rattle.std.proofs.Common.{Some, ◌≡◌, sym, ap, ◌∙◌, subst}
use Rattle.std.proofs.lemmas.Result.{on_ok_weaker}
use Rattle.core_rules.specs.Substitution.{over}
use Rattle.term_pool.specs.Pool.{tree, StandsFor}
use Rattle.term_pool.specs.Table.{found, Has}
use Rattle.term_pool.specs.Change.{Joins, key}
use Rattle.term_pool.proofs.Turns.{put-turn, found-turn, made-join, join_state, below_made, None-not-some}
use Rattle.term_pool.proofs.traversal.turn.Goals as goal
use Rattle.term_pool.proofs.traversal.turn.Goals.{In-Join}
use Rattle.term_pool.proofs.traversal.turn.Given.{Over}

joins : (g : Over) (c : In-Join g) → Joins c.args.pool.now c.in-Join.t c.in-Join.under c.in-Join.node c.in-Join.first c.in-Join.second c.in-Join.inner × (Has c.args.table.now c.in-Join.first c.in-Join.under × Has c.args.table.now c.in-Join.second c.in-Join.inner)
joins g c = join_state (g.C.Change.term c.args.change.now c.args.pool.now) c.args.pool.now c.args.table.now c.args.pending.now.items c.args.task _ _ _ _ _ _ c.in-Join.is c.requires.state

pub returns-then-is_some-clause-turn : goal.returns-then-is_some-clause-turn
returns-then-is_some-clause-turn g c =
    found-turn (g.C.Change.term c.args.change.now c.args.pool.now) c.args.pool.now c.args.table.now c.args.pending.now.items c.args.task c.requires.state
    (subst (λ w. Has c.args.table.now (key w).0 (key w).1) (sym c.in-Make.is) (cc (c.get.ensures, c.is_some.ensures, c.if-is_some.true)))

pub unreachable-requires : goal.unreachable-requires
unreachable-requires g c = None-not-some (found c.args.table.now c.in-Join.first c.in-Join.under) (sym c.get-in-Join.ensures ∙ c.in_default.is) (joins g (goal.at.unreachable-requires g c).In-Join).1.0

pub unreachable-requires-in_default-get : goal.unreachable-requires-in_default-get
unreachable-requires-in_default-get g c = None-not-some (found c.args.table.now c.in-Join.second c.in-Join.inner) (sym c.get-in-Join-2.ensures ∙ c.in_default-get.is) (joins g (goal.at.unreachable-requires-in_default-get g c).In-Join).1.1

pub join-requires-clause-below : goal.join-requires-clause-below
join-requires-clause-below g c =
    below_made (g.C.Change.term c.args.change.now c.args.pool.now) c.args.pool.now c.args.table.now c.in-Join.t c.in-Join.under c.in-Join.first c.in-Join.second c.in-Join.inner c.in-Some.made_first c.in-Some-get.made_second c.in-Join.node
    c.requires.state.fits (joins g (goal.at.join-requires-clause-below g c).In-Join).0 (sym c.get-in-Join.ensures ∙ c.in-Some.is) (sym c.get-in-Join-2.ensures ∙ c.in-Some-get.is)

pub returns-in_ok-made-in-Join-clause-turn : goal.returns-in_ok-made-in-Join-clause-turn
returns-in_ok-made-in-Join-clause-turn g c =
    let f = g.C.Change.term c.args.change.now c.args.pool.now in
    let j = (joins g (goal.at.returns-in_ok-made-in-Join-clause-turn g c).In-Join).0 in
    let first : found c.args.table.now c.in-Join.first c.in-Join.under ≡ Some c.in-Some.made_first = cc (c.get-in-Join.ensures, c.in-Some.is) in
    let second : found c.args.table.now c.in-Join.second c.in-Join.inner ≡ Some c.in-Some-get.made_second = cc (c.get-in-Join-2.ensures, c.in-Some-get.is) in
    let made : StandsFor c.join.new.pool c.in_ok-made-in-Join.made (over f c.in-Join.under (tree c.args.pool.now c.in-Join.t)) =
    made-join f c.args.pool.now c.args.table.now c.in-Join.t c.in-Join.under c.in-Join.first c.in-Join.second c.in-Join.inner c.in-Some.made_first c.in-Some-get.made_second c.in-Join.node
    c.requires.state.fits j first second c.join.new.pool c.in_ok-made-in-Join.made c.in_ok-made-in-Join.ensures.stands in
    on_ok_weaker c.put.result (put-turn f c.args.pool.now c.args.table.now c.args.pending.now.items c.args.task c.requires.state c.join.new.pool c.put.new.self
    c.in-Join.t c.in-Join.under c.in_ok-made-in-Join.made (ap key c.in-Join.is) c.join.ensures.extends j.within made) c.put.ensures
