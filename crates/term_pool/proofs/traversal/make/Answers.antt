use Rattle.std.proofs.Common.{refl, sym, ◌∙◌, ◌++◌, ◌∷◌, [], ◌<◌, length, rules, subst}
use Rattle.std.proofs.lemmas.Result.{on_ok_weaker}
use Rattle.term_pool.proofs.Turns.{put-turn, open-turn, made-alone, made-kept, made-variable, all_last, three-pushes}
use Rattle.term_pool.specs.Change.{IsTask, Turn}
use Rattle.term_pool.specs.Growth.{Extends-refl}
use Rattle.term_pool.specs.declared.change.Task.TheVariants.{Make}
use Rattle.term_pool.proofs.traversal.make.Goals as goal

pub returns-in_ok-made-in-Variable-clause-turn : goal.returns-in_ok-made-in-Variable-clause-turn
returns-in_ok-made-in-Variable-clause-turn g c =
    let f = g.C.Change.term c.args.change.now c.args.pool.now in
    let l : c.args.t < length c.args.pool.now.trees = all_last (IsTask c.args.pool.now) c.args.pending.now.items (Make c.args.t c.args.under) c.requires.state.tasks in
    on_ok_weaker c.put-in-Variable.result (put-turn f c.args.pool.now c.args.table.now c.args.pending.now.items (Make c.args.t c.args.under) c.requires.state c.variable.new.pool c.put-in-Variable.new.self
    c.args.t c.args.under c.in_ok-made-in-Variable.made refl c.variable.ensures.extends l
    (made-variable f c.args.pool.now c.variable.new.pool c.args.t c.args.under c.in-Variable.index c.in_ok-made-in-Variable.made c.node-node.result c.node-node.ensures.is
    (sym c.parts.ensures ∙ c.in-Variable.is) c.in_ok-made-in-Variable.ensures.is)) c.put-in-Variable.ensures

pub returns-then-reach-under-clause-turn : goal.returns-then-reach-under-clause-turn
returns-then-reach-under-clause-turn g c =
    let f = g.C.Change.term c.args.change.now c.args.pool.now in
    let l : c.args.t < length c.args.pool.now.trees = all_last (IsTask c.args.pool.now) c.args.pending.now.items (Make c.args.t c.args.under) c.requires.state.tasks in
    on_ok_weaker c.put.result (put-turn f c.args.pool.now c.args.table.now c.args.pending.now.items (Make c.args.t c.args.under) c.requires.state c.args.pool.now c.put.new.self
    c.args.t c.args.under c.args.t refl (Extends-refl c.args.pool.now) l
    (made-kept f c.first.result c.args.pool.now c.args.t c.args.under l (c.first.ensures c.args.pool.now) (search rules))) c.put.ensures

pub returns-in-Alone-clause-turn : goal.returns-in-Alone-clause-turn
returns-in-Alone-clause-turn g c =
    let f = g.C.Change.term c.args.change.now c.args.pool.now in
    let l : c.args.t < length c.args.pool.now.trees = all_last (IsTask c.args.pool.now) c.args.pending.now.items (Make c.args.t c.args.under) c.requires.state.tasks in
    on_ok_weaker c.put-in-Alone.result (put-turn f c.args.pool.now c.args.table.now c.args.pending.now.items (Make c.args.t c.args.under) c.requires.state c.args.pool.now c.put-in-Alone.new.self
    c.args.t c.args.under c.args.t refl (Extends-refl c.args.pool.now) l
    (made-alone f c.args.pool.now c.args.t c.args.under c.node-node.result l c.node-node.ensures.is (sym c.parts.ensures ∙ c.in-Alone.is))) c.put-in-Alone.ensures

pub returns-in_ok-push-in-Two-3-clause-turn : goal.returns-in_ok-push-in-Two-3-clause-turn
returns-in_ok-push-in-Two-3-clause-turn g c =
    let f = g.C.Change.term c.args.change.now c.args.pool.now in
    let ws = c.args.pending.now.items in
    let opened = open-turn f c.args.pool.now c.args.table.now ws c.args.t c.args.under c.node-node.result c.in-Two.first c.in-Two.second c.in-Some.inner c.in-Two.binds c.requires.state
    c.node-node.ensures.below c.node-node.ensures.is (sym c.parts.ensures ∙ c.in-Two.is) (search rules) in
    subst (λ vs. Turn f c.args.pool.now c.args.table.now (ws ++ Make c.args.t c.args.under ∷ []) c.args.pool.now c.args.table.now vs)
    (sym (three-pushes ws _ _ _ _ _ _ c.in_ok-push-in-Two.ensures.items c.in_ok-push-in-Two-2.ensures.items c.in_ok-push-in-Two-3.ensures.items)) opened
