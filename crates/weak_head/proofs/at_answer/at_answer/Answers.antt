use Rattle.std.proofs.Common.{◌≡◌, ◌<◌, length, Some, None, map, drop, sym, ap, ap₂, ◌∙◌, subst, true, false}
use Rattle.core_rules.specs.Substitution.{value_at}
use Rattle.core_rules.specs.Mapped.{branch_map, tree_map}
use Rattle.core_rules.specs.Run.{takes, spread}
use Rattle.weak_head.specs.Pending.{AtTree, On}
use Rattle.weak_head.proofs.Calls.{con_stands}
use Rattle.weak_head.proofs.Stays.{applied_more, spine_stays, tree_stays, tree_more}
use Rattle.core_terms.specs.TreeView.{con_of}
use Rattle.term_pool.specs.Pool.{tree, args}
use Rattle.core_terms.specs.Signature.{signature_in}
use Rattle.term_pool.specs.Growth.{Extends-refl, Extends-tree}
use Rattle.weak_head.specs.Elims.{spine_in, env_in}
use Rattle.weak_head.specs.States.{Ids, frame_in}
use Rattle.weak_head.proofs.Moves.{none_from, all_args, some_field, no_con_node, length_spine, answer_as, branch_map_at, back_other, back_field, back_short, back_by}
use Rattle.weak_head.proofs.at_answer.at_answer.Goals as goal

pub returns-in_default : goal.returns-in_default
returns-in_default c =
    let p = c.args.pool.now in
    let g = signature_in p c.args.sig.now in
    let f = tree p in
    let x = frame_in f c.args.frame in
    record {
      extends = Extends-refl p;
      below = c.requires.frame.0.0;
      is = λ s fs. answer_as g f c.args.meta c.args.term x fs (none_from c.args.meta (sym c.is_some.ensures ∙ c.if-is_some.false))
          (back_other g s x fs (f c.args.term.head) (spine_in f c.args.term.spine.items) c.requires.bare (λ k ps e. no_con_node f c.node.result c.in_default.not-Con k ps (sym c.node.ensures.is ∙ e)));
    }

pub returns-then-is_some-2-clause-is : goal.returns-then-is_some-2-clause-is
returns-then-is_some-2-clause-is c = λ s fs.
    let p = c.args.pool.now in
    let g = signature_in p c.args.sig.now in
    let f = tree p in
    let x = frame_in f c.args.frame in
    let es = spine_in f c.args.term.spine.items in
    let h = some_field es c.first_field.result (sym c.is_some-2.ensures ∙ c.if-is_some-2.true) (c.first_field.ensures.is f) in
    answer_as g f c.args.meta c.args.term x fs (none_from c.args.meta (sym c.is_some.ensures ∙ c.if-is_some.false)) (back_field g s x fs (f c.args.term.head) es h.0 h.1 h.2)

pub returns-then-not-takes-clause-is : goal.returns-then-not-takes-clause-is
returns-then-not-takes-clause-is c = λ s fs.
    let p = c.args.pool.now in
    let g = signature_in p c.args.sig.now in
    let f = tree p in
    let x = frame_in f c.args.frame in
    let es = spine_in f c.args.term.spine.items in
    let a = all_args es c.first_field.result (sym c.is_some-2.ensures ∙ c.if-is_some-2.false) (c.first_field.ensures.is f) in
    let l : c.len.result ≡ length es = c.len.ensures.value ∙ sym (length_spine f c.args.term.spine.items) in
    let t : false ≡ takes g c.in-Con.con (length es) = sym c.if-not-takes.true ∙ c.takes.ensures p ∙ ap (takes g c.in-Con.con) l in
    answer_as g f c.args.meta c.args.term x fs (none_from c.args.meta (sym c.is_some.ensures ∙ c.if-is_some.false))
    (back_short g s x fs (f c.args.term.head) c.in-Con.con (args p c.in-Con.params) es c.in-Con.ensures.is a t)

pub returns-in_default-branch_of_con-clause-is : goal.returns-in_default-branch_of_con-clause-is
returns-in_default-branch_of_con-clause-is c = λ s fs.
    let p = c.args.pool.now in
    let g = signature_in p c.args.sig.now in
    let f = tree p in
    let x = frame_in f c.args.frame in
    let es = spine_in f c.args.term.spine.items in
    let a = all_args es c.first_field.result (sym c.is_some-2.ensures ∙ c.if-is_some-2.false) (c.first_field.ensures.is f) in
    let l : c.len.result ≡ length es = c.len.ensures.value ∙ sym (length_spine f c.args.term.spine.items) in
    let t : true ≡ takes g c.in-Con.con (length es) = sym c.if-not-takes.false ∙ c.takes.ensures p ∙ ap (takes g c.in-Con.con) l in
    answer_as g f c.args.meta c.args.term x fs (none_from c.args.meta (sym c.is_some.ensures ∙ c.if-is_some.false))
    (back_by g s x fs (f c.args.term.head) c.in-Con.con (args p c.in-Con.params) es None c.in-Con.ensures.is a t (branch_map_at f (con_of c.args.frame.branches.now) c.in-Con.con None c.in_default-branch_of_con.ensures))

pub kept-requires : goal.kept-requires
kept-requires c =
    let n = length c.args.pool.now.trees in
    subst (Ids n) (sym c.as_slice-3.ensures.value) (c.in_ok-wide.ensures.below n (subst (Ids n) (sym c.as_slice.ensures.value) c.requires.frame.0.1) (subst (Ids n) (sym c.as_slice-2.ensures.value) (c.in_ok-parts.ensures.within n c.requires.term.1)))

pub returns-clause-below : goal.returns-clause-below
returns-clause-below c =
    let n = length c.args.pool.now.trees in
    let e = c.in_ok-env.ensures.extends in
    let call = c.args.frame.call in
    let T = c.in-Some.found.1.now in (
      (applied_more e call.term c.requires.frame.0.0, c.in_ok-env.ensures.below),
      tree_more e call.term.head T c.requires.frame.0.0.0 (con_stands (λ i. i < n) (con_of c.args.frame.branches.now) c.in-Con.con c.in-Some.found.0.now T c.in-Some.ensures c.requires.frame.1),
    )

pub returns-clause-is : goal.returns-clause-is
returns-clause-is c = λ s fs.
    let p = c.args.pool.now in
    let q = c.kept.new.pool in
    let n = length p.trees in
    let g = signature_in p c.args.sig.now in
    let f = tree p in
    let x = frame_in f c.args.frame in
    let call = c.args.frame.call in
    let es = spine_in f c.args.term.spine.items in
    let b = c.in-Some.found.0.now in
    let T = c.in-Some.found.1.now in
    let e = c.in_ok-env.ensures.extends in
    let a = all_args es c.first_field.result (sym c.is_some-2.ensures ∙ c.if-is_some-2.false) (c.first_field.ensures.is f) in
    let l : c.len.result ≡ length es = c.len.ensures.value ∙ sym (length_spine f c.args.term.spine.items) in
    let t : true ≡ takes g c.in-Con.con (length es) = sym c.if-not-takes.false ∙ c.takes.ensures p ∙ ap (takes g c.in-Con.con) l in
    let h = con_stands (λ i. i < n) (con_of c.args.frame.branches.now) c.in-Con.con b T c.in-Some.ensures c.requires.frame.1 in
    let e1 = Extends-tree call.term.head e c.requires.frame.0.0.0 in
    let e2 = spine_stays e call.term.spine.items c.requires.frame.0.0.1 in
    let e3 = tree_stays e call.term.head T c.requires.frame.0.0.0 h in
    let wide = c.in_ok-wide.ensures.is f ∙ ap₂ (λ u r. spread c.args.frame.at u r) (ap (map f) c.as_slice-2.ensures.value ∙ c.in_ok-parts.ensures.is f) (ap (env_in f) c.as_slice.ensures.value) in
    let e4 = c.in_ok-env.ensures.is ∙ ap₂ (λ l k. map (value_at (env_in f l)) k) c.as_slice-3.ensures.value c.keep_of.ensures ∙ ap (λ r. map (value_at r) b.keep) wide in
    let same : _ = λ i. On (AtTree (e1 i) (e2 i) (e3 i) (e4 i) (drop call.taken (e2 i))) fs in
    answer_as g f c.args.meta c.args.term x fs (none_from c.args.meta (sym c.is_some.ensures ∙ c.if-is_some.false))
    (same ∙ back_by g s x fs (f c.args.term.head) c.in-Con.con (args p c.in-Con.params) es (Some (branch_map f b, tree_map f T)) c.in-Con.ensures.is a t
    (branch_map_at f (con_of c.args.frame.branches.now) c.in-Con.con (Some (b, T)) c.in-Some.ensures))
