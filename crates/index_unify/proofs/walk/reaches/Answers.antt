use Rattle.std.proofs.Common.{sym, ◌∙◌}
use Rattle.el_base.proofs.Throughout.{all-at}
use Rattle.index_unify.proofs.Walks.{Stands, opened, found, ended, visit-goal, visit-opens}
use Rattle.index_unify.proofs.walk.reaches.Goals as goal

pub returns-in_default : goal.returns-in_default
returns-in_default g c =
    ended (g.W.Walk.edge c.args.walk.now c.args.pool.now) (g.W.Walk.goal c.args.walk.now) c.args.pool.now (c.args.t, 0) c.loop-at.queue c.loop-at.at c.loop-at.invariant
    (sym c.get.ensures ∙ c.in_default.is)

pub visit-requires-clause-t : goal.visit-requires-clause-t
visit-requires-clause-t g c =
    (all-at (Stands (g.W.Walk.edge c.args.walk.now c.args.pool.now) (g.W.Walk.goal c.args.walk.now) c.args.pool.now (c.args.t, 0)) c.loop-at.queue c.loop-at.at c.in-Some.item c.loop-at.invariant.stand
    (sym c.get.ensures ∙ c.in-Some.is)).0

pub returns-then-branch : goal.returns-then-branch
returns-then-branch g c =
    let E = g.W.Walk.edge c.args.walk.now c.args.pool.now in
    let G = g.W.Walk.goal c.args.walk.now in
    found E G c.args.pool.now (c.args.t, 0) c.loop-at.queue c.loop-at.at c.in-Some.item c.loop-at.invariant (sym c.get.ensures ∙ c.in-Some.is)
    (visit-goal E G c.args.pool.now (c.args.t, 0) c.in-Some.item c.loop-at.queue c.visit.new.queue c.in_ok-visit.field-0 c.in_ok-visit.ensures c.if-branch.true)

pub loop-at-preserved : goal.loop-at-preserved
loop-at-preserved g c =
    let E = g.W.Walk.edge c.args.walk.now c.args.pool.now in
    let G = g.W.Walk.goal c.args.walk.now in
    let v = visit-opens E G c.args.pool.now (c.args.t, 0) c.in-Some.item c.loop-at.queue c.visit.new.queue c.in_ok-visit.field-0 c.in_ok-visit.ensures c.if-branch.false in
    opened E G c.args.pool.now (c.args.t, 0) c.loop-at.queue c.visit.new.queue c.loop-at.at c.in-Some.item c.loop-at.invariant (sym c.get.ensures ∙ c.in-Some.is) v.0 v.1
