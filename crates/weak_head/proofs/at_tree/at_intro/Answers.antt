use Rattle.std.proofs.Common.{◌<◌, ◌+◌, Some, drop, sym, ap, ◌∙◌, refl, subst}
use Rattle.core_rules.specs.Mapped.{tree_map}
use Rattle.core_rules.specs.Signature.{Intro}
use Rattle.el_base.proofs.Throughout.{all-push}
use Rattle.weak_head.specs.declared.elim.Elim.TheVariants as V
use Rattle.weak_head.specs.Elims.{spine_in, env_in}
use Rattle.weak_head.specs.Pending.{AtTree, On}
use Rattle.weak_head.specs.States.{Ids}
use Rattle.weak_head.proofs.Spines.{none_of, below_at}
use Rattle.weak_head.proofs.Environments.{env_push}
use Rattle.weak_head.proofs.Calls.{left_none, left_some, node_as}
use Rattle.weak_head.proofs.at_tree.at_intro.Goals as goal

pub returns-in_default-clause-is : goal.returns-in_default-clause-is
returns-in_default-clause-is c = λ f g s fs.
    let x = c.args.call.term.spine.items in
    node_as g s fs (f c.args.call.term.head) (spine_in f x) (env_in f c.args.call.env.items) (Intro (tree_map f c.args.rest.now))
    (left_none f x c.args.call.taken (sym (none_of c.elim_at.result c.in_default.not-Some) ∙ c.elim_at.ensures.is)) refl

pub returns-in_default-elim-clause-is : goal.returns-in_default-elim-clause-is
returns-in_default-elim-clause-is c = λ f g s fs.
    let x = c.args.call.term.spine.items in
    node_as g s fs (f c.args.call.term.head) (spine_in f x) (env_in f c.args.call.env.items) (Intro (tree_map f c.args.rest.now))
    (left_some f x c.args.call.taken (V.Field c.in_default-elim.field-0) (ap Some (sym c.in_default-elim.is) ∙ c.in-Some.ensures.is)) refl

pub returns-clause-below : goal.returns-clause-below
returns-clause-below c = λ n h t.
    let e = ap Some (sym c.in-Arg.is) ∙ c.in-Some.ensures.is in
    ((h.0, subst (Ids n) (sym c.in_ok-push.ensures.items) (all-push (λ i. i < n) c.args.call.env.items c.in-Arg.arg h.1 (below_at n c.args.call.term.spine.items c.args.call.taken (V.Arg c.in-Arg.flag c.in-Arg.arg) e h.0.1))), t)

pub returns-clause-is : goal.returns-clause-is
returns-clause-is c = λ f g s fs.
    let x = c.args.call.term.spine.items in
    let h = f c.args.call.term.head in
    let T = tree_map f c.args.rest.now in
    let left = drop (c.args.call.taken + 1) (spine_in f x) in
    ap (λ r. On (AtTree h (spine_in f x) T r left) fs) (ap (env_in f) c.in_ok-push.ensures.items ∙ env_push f c.args.call.env.items c.in-Arg.arg)
    ∙ node_as g s fs h (spine_in f x) (env_in f c.args.call.env.items) (Intro T)
    (left_some f x c.args.call.taken (V.Arg c.in-Arg.flag c.in-Arg.arg) (ap Some (sym c.in-Arg.is) ∙ c.in-Some.ensures.is)) refl
