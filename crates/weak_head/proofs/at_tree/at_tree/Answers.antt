use Rattle.std.proofs.Common.{◌≡◌, ◌<◌, [], ◌∷◌, length, drop, map, sym, ap, ap₂, ◌∙◌, subst}
use Rattle.core_rules.specs.Substitution.{under, value_at}
use Rattle.core_rules.specs.Signature.{Leaf, Intro, Cosplit, Split, RecordSplit}
use Rattle.core_rules.specs.Mapped.{tree_map, AllTree, AllCoBranches, AllConBranches}
use Rattle.core_rules.specs.Run.{spread}
use Rattle.core_terms.specs.TreeView.{step_of, co_of, con_of}
use Rattle.term_pool.specs.Pool.{tree}
use Rattle.core_terms.specs.Signature.{signature_in}
use Rattle.term_pool.specs.Growth.{Extends-trans, Extends-tree}
use Rattle.weak_head.specs.Elims.{env_in}
use Rattle.weak_head.specs.Pending.{AtTerm, AtTree, AtStep, On, move}
use Rattle.weak_head.specs.States.{Ids, call_in}
use Rattle.weak_head.proofs.Environments.{ids_more, env_stays}
use Rattle.weak_head.proofs.Lookups.{projections_in}
use Rattle.weak_head.proofs.Stays.{spine_stays, tree_stays, tree_more, branches_more, applied_more, call_more, frame_stays}
use Rattle.weak_head.proofs.at_tree.at_tree.Goals as goal

pub returns-in-Leaf-clause-below : goal.returns-in-Leaf-clause-below
returns-in-Leaf-clause-below c =
    let n = length c.args.pool.now.trees in
    let t : c.args.node.now ≡ Leaf c.in-Leaf.body c.in-Leaf.clause = sym c.node.view_is ∙ ap step_of c.in-Leaf.is in
    let h : c.in-Leaf.body < n = subst (AllTree (λ i. i < n)) t c.requires.node in
    ((h, c.requires.call.1), c.without-spine.ensures.within n c.requires.call.0.1)

pub returns-in-Leaf-clause-is : goal.returns-in-Leaf-clause-is
returns-in-Leaf-clause-is c = λ s fs.
    let f = tree c.args.pool.now in
    let g = signature_in c.args.pool.now c.args.sig.now in
    let t : c.args.node.now ≡ Leaf c.in-Leaf.body c.in-Leaf.clause = sym c.node.view_is ∙ ap step_of c.in-Leaf.is in
    ap (λ l. On (AtStep (under (env_in f c.args.call.env.items) (f c.in-Leaf.body)) l) fs) (c.without-spine.ensures.is f)
    ∙ ap (λ T. move g s (call_in f c.args.call T) fs) (sym t)

pub returns-in-Intro-clause-below : goal.returns-in-Intro-clause-below
returns-in-Intro-clause-below c =
    let n = length c.args.pool.now.trees in
    let t : c.args.node.now ≡ Intro c.in-Intro.rest.value = sym c.node.view_is ∙ ap step_of c.in-Intro.is in
    let h : AllTree (λ i. i < n) c.in-Intro.rest.value = subst (AllTree (λ i. i < n)) t c.requires.node in
    c.in_ok-next-in-Intro.ensures.below n c.requires.call (subst (AllTree (λ i. i < n)) (sym c.deref.ensures) h)

pub returns-in-Intro-clause-is : goal.returns-in-Intro-clause-is
returns-in-Intro-clause-is c = λ s fs.
    let f = tree c.args.pool.now in
    let g = signature_in c.args.pool.now c.args.sig.now in
    let t : c.args.node.now ≡ Intro c.in-Intro.rest.value = sym c.node.view_is ∙ ap step_of c.in-Intro.is in
    c.in_ok-next-in-Intro.ensures.is f g s fs ∙ ap (λ T. move g s (call_in f c.args.call T) fs) (ap Intro c.deref.ensures ∙ sym t)

pub returns-in-Cosplit-clause-below : goal.returns-in-Cosplit-clause-below
returns-in-Cosplit-clause-below c =
    let n = length c.args.pool.now.trees in
    let t : c.args.node.now ≡ Cosplit (co_of c.in-Cosplit.branches.items) = sym c.node.view_is ∙ ap step_of c.in-Cosplit.is in
    let h : AllCoBranches (λ i. i < n) (co_of c.in-Cosplit.branches.items) = subst (AllTree (λ i. i < n)) t c.requires.node in
    c.at_cosplit.ensures.below n c.requires.call (subst (λ l. AllCoBranches (λ i. i < n) (co_of l)) (sym c.as_slice.ensures.value) h)

pub returns-in-Cosplit-clause-is : goal.returns-in-Cosplit-clause-is
returns-in-Cosplit-clause-is c = λ s fs.
    let f = tree c.args.pool.now in
    let g = signature_in c.args.pool.now c.args.sig.now in
    let t : c.args.node.now ≡ Cosplit (co_of c.in-Cosplit.branches.items) = sym c.node.view_is ∙ ap step_of c.in-Cosplit.is in
    c.at_cosplit.ensures.is f g s fs ∙ ap (λ T. move g s (call_in f c.args.call T) fs) (ap (λ l. Cosplit (co_of l)) c.as_slice.ensures.value ∙ sym t)

pub returns-in-Split-clause-below : goal.returns-in-Split-clause-below
returns-in-Split-clause-below c =
    let n = length c.args.pool.now.trees in
    let e = c.in_ok-v-in-Split.ensures.extends in
    let t : c.args.node.now ≡ Split c.in-Split.at (con_of c.in-Split.branches.items) = sym c.node.view_is ∙ ap step_of c.in-Split.is in
    let h : AllConBranches (λ i. i < n) (con_of c.in-Split.branches.items) = subst (AllTree (λ i. i < n)) t c.requires.node in (
      (
        call_more e c.args.call c.requires.call,
        branches_more e c.args.call.term.head (con_of c.as_slice-in-Split-2.result.now) c.requires.call.0.0 (subst (λ l. AllConBranches (λ i. i < n) (con_of l)) (sym c.as_slice-in-Split-2.ensures.value) h),
      ),
      c.in_ok-v-in-Split.ensures.is.within,
    )

pub returns-in-Split-clause-is : goal.returns-in-Split-clause-is
returns-in-Split-clause-is c = λ s fs.
    let n = length c.args.pool.now.trees in
    let f = tree c.args.pool.now in
    let g = signature_in c.args.pool.now c.args.sig.now in
    let e = c.in_ok-v-in-Split.ensures.extends in
    let t : c.args.node.now ≡ Split c.in-Split.at (con_of c.in-Split.branches.items) = sym c.node.view_is ∙ ap step_of c.in-Split.is in
    let h : AllConBranches (λ i. i < n) (con_of c.in-Split.branches.items) = subst (AllTree (λ i. i < n)) t c.requires.node in
    let v : tree c.value.new.pool c.in_ok-v-in-Split.v ≡ value_at (env_in f c.args.call.env.items) c.in-Split.at = c.in_ok-v-in-Split.ensures.is.is ∙ ap (λ l. value_at (env_in f l) c.in-Split.at) c.as_slice-in-Split.ensures.value in
    ap₂ (λ x y. On (AtTerm x []) (y ∷ fs)) v
    (frame_stays e (record { call = c.args.call; at = c.in-Split.at; branches = c.as_slice-in-Split-2.result }) (c.requires.call, subst (λ l. AllConBranches (λ i. i < n) (con_of l)) (sym c.as_slice-in-Split-2.ensures.value) h))
    ∙ ap (λ T. move g s (call_in f c.args.call T) fs) (ap (λ l. Split c.in-Split.at (con_of l)) c.as_slice-in-Split-2.ensures.value ∙ sym t)

pub returns-in-RecordSplit-clause-below : goal.returns-in-RecordSplit-clause-below
returns-in-RecordSplit-clause-below c =
    let n = length c.args.pool.now.trees in
    let m = length c.projections.new.pool.trees in
    let e = Extends-trans c.in_ok-v-in-RecordSplit.ensures.extends c.in_ok-parts-in-RecordSplit.ensures.extends in
    let t : c.args.node.now ≡ RecordSplit c.in-RecordSplit.at c.in-RecordSplit.fam c.in-RecordSplit.rest.value = sym c.node.view_is ∙ ap step_of c.in-RecordSplit.is in
    let h : AllTree (λ i. i < n) c.in-RecordSplit.rest.value = subst (AllTree (λ i. i < n)) t c.requires.node in (
      (
        applied_more e c.args.call.term c.requires.call.0,
        c.in_ok-env-in-RecordSplit.ensures.below m (subst (Ids m) (sym c.as_slice-in-RecordSplit-2.ensures.value) (ids_more e c.args.call.env.items c.requires.call.1)) (subst (Ids m) (sym c.as_slice-in-RecordSplit-3.ensures.value) c.in_ok-parts-in-RecordSplit.ensures.below),
      ),
      subst (AllTree (λ i. i < m)) (sym c.deref-in-RecordSplit.ensures) (tree_more e c.args.call.term.head c.in-RecordSplit.rest.value c.requires.call.0.0 h),
    )

pub returns-in-RecordSplit-clause-is : goal.returns-in-RecordSplit-clause-is
returns-in-RecordSplit-clause-is c = λ s fs.
    let p = c.args.pool.now in
    let q = c.projections.new.pool in
    let n = length p.trees in
    let f = tree p in
    let g = signature_in p c.args.sig.now in
    let at = c.in-RecordSplit.at in
    let rest = c.in-RecordSplit.rest.value in
    let env = c.args.call.env.items in
    let e = Extends-trans c.in_ok-v-in-RecordSplit.ensures.extends c.in_ok-parts-in-RecordSplit.ensures.extends in
    let t : c.args.node.now ≡ RecordSplit at c.in-RecordSplit.fam rest = sym c.node.view_is ∙ ap step_of c.in-RecordSplit.is in
    let h : AllTree (λ i. i < n) rest = subst (AllTree (λ i. i < n)) t c.requires.node in
    let v : tree c.value-in-RecordSplit.new.pool c.in_ok-v-in-RecordSplit.v ≡ value_at (env_in f env) at = c.in_ok-v-in-RecordSplit.ensures.is.is ∙ ap (λ l. value_at (env_in f l) at) c.as_slice-in-RecordSplit.ensures.value in
    let e1 = Extends-tree c.args.call.term.head e c.requires.call.0.0 in
    let e2 = spine_stays e c.args.call.term.spine.items c.requires.call.0.1 in
    let e3 = ap (tree_map (tree q)) c.deref-in-RecordSplit.ensures ∙ tree_stays e c.args.call.term.head rest c.requires.call.0.0 h in
    let e4 = c.in_ok-env-in-RecordSplit.ensures.is (tree q)
    ∙ ap₂ (λ x y. spread at (map (tree q) x) (env_in (tree q) y)) c.as_slice-in-RecordSplit-3.ensures.value c.as_slice-in-RecordSplit-2.ensures.value
    ∙ ap₂ (spread at) (c.in_ok-parts-in-RecordSplit.ensures.is ∙ projections_in c.value-in-RecordSplit.new.pool p c.args.sig.now c.in-RecordSplit.fam v) (env_stays e env c.requires.call.1) in
    let same : _ = λ i. On (AtTree (e1 i) (e2 i) (e3 i) (e4 i) (drop c.args.call.taken (e2 i))) fs in
    same ∙ ap (λ T. move g s (call_in f c.args.call T) fs) (sym t)
