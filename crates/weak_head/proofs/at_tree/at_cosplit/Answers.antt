use Rattle.std.proofs.Common.{◌<◌, ◌+◌, Some, drop, sym, ap, ◌∙◌, refl}
use Rattle.core_rules.specs.Mapped.{co_branches_map, tree_map}
use Rattle.core_rules.specs.Signature.{Cosplit}
use Rattle.core_terms.specs.TreeView.{co_of}
use Rattle.weak_head.specs.declared.elim.Elim.TheVariants as V
use Rattle.weak_head.specs.Elims.{spine_in, env_in}
use Rattle.weak_head.proofs.Spines.{none_of}
use Rattle.weak_head.proofs.Calls.{left_none, left_some, node_as, cosplit_no, cosplit_yes, co_none, co_some, co_stands}
use Rattle.weak_head.proofs.at_tree.at_cosplit.Goals as goal

pub returns-in_default-clause-is : goal.returns-in_default-clause-is
returns-in_default-clause-is c = λ f g s fs.
    let x = c.args.call.term.spine.items in
    node_as g s fs (f c.args.call.term.head) (spine_in f x) (env_in f c.args.call.env.items) (Cosplit (co_branches_map f (co_of c.args.branches.now)))
    (left_none f x c.args.call.taken (sym (none_of c.elim_at.result c.in_default.not-Some) ∙ c.elim_at.ensures.is)) refl

pub returns-in_default-elim-clause-is : goal.returns-in_default-elim-clause-is
returns-in_default-elim-clause-is c = λ f g s fs.
    let x = c.args.call.term.spine.items in
    node_as g s fs (f c.args.call.term.head) (spine_in f x) (env_in f c.args.call.env.items) (Cosplit (co_branches_map f (co_of c.args.branches.now)))
    (left_some f x c.args.call.taken (V.Arg c.in_default-elim.field-0 c.in_default-elim.field-1) (ap Some (sym c.in_default-elim.is) ∙ c.in-Some.ensures.is)) refl

pub returns-in_default-branch_of_field-clause-is : goal.returns-in_default-branch_of_field-clause-is
returns-in_default-branch_of_field-clause-is c = λ f g s fs.
    let x = c.args.call.term.spine.items in
    let bs = co_of c.args.branches.now in
    node_as g s fs (f c.args.call.term.head) (spine_in f x) (env_in f c.args.call.env.items) (Cosplit (co_branches_map f bs))
    (left_some f x c.args.call.taken (V.Field c.in-Field.field) (ap Some (sym c.in-Field.is) ∙ c.in-Some.ensures.is))
    (cosplit_no g s fs (f c.args.call.term.head) (spine_in f x) (env_in f c.args.call.env.items) (co_branches_map f bs) c.in-Field.field (drop (c.args.call.taken + 1) (spine_in f x)) (co_none f bs c.in-Field.field c.in_default-branch_of_field.ensures))

pub returns-clause-is : goal.returns-clause-is
returns-clause-is c = λ f g s fs.
    let x = c.args.call.term.spine.items in
    let bs = co_of c.args.branches.now in
    let T = c.in-Some-branch_of_field.rest.now in
    node_as g s fs (f c.args.call.term.head) (spine_in f x) (env_in f c.args.call.env.items) (Cosplit (co_branches_map f bs))
    (left_some f x c.args.call.taken (V.Field c.in-Field.field) (ap Some (sym c.in-Field.is) ∙ c.in-Some.ensures.is))
    (cosplit_yes g s fs (f c.args.call.term.head) (spine_in f x) (env_in f c.args.call.env.items) (co_branches_map f bs) c.in-Field.field (drop (c.args.call.taken + 1) (spine_in f x)) (tree_map f T) (co_some f bs c.in-Field.field T c.in-Some-branch_of_field.ensures))

pub returns-clause-below : goal.returns-clause-below
returns-clause-below c = λ n h a. (h, co_stands (λ i. i < n) (co_of c.args.branches.now) c.in-Field.field c.in-Some-branch_of_field.rest.now c.in-Some-branch_of_field.ensures a)
