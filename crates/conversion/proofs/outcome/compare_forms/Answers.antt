use Rattle.std.proofs.Common.{[], ap, sym, ◌∙◌}
use Rattle.core_rules.specs.Elimination.{elims}
use Rattle.core_rules.specs.Bounded.{Decision, Now, No, parts_or}
use Rattle.term_pool.specs.Pool.{tree}
use Rattle.term_pool.specs.Growth.{Extends-trans, Extends-tree}
use Rattle.weak_head.specs.Elims.{spine_in}
use Rattle.conversion.specs.Part.{parts_in}
use Rattle.conversion.proofs.Slices.{none_of}
use Rattle.conversion.proofs.Stays.{applied_more}
use Rattle.conversion.proofs.Reducing.{form_stays}
use Rattle.conversion.proofs.outcome.compare_forms.Goals as goal

pub returns-in-Some-clause-is : goal.returns-in-Some-clause-is
returns-in-Some-clause-is c =
    let f = tree c.args.pool.now in
    let a = c.args.left.now in
    let b = c.args.right.now in
    let q : Decision = Now (No (elims (f a.head) (spine_in f a.spine.items)) (elims (f b.head) (spine_in f b.spine.items)) []) in
    sym (c.in_ok-parts.ensures.is q) ∙ ap (λ o. parts_or q (parts_in (tree c.parts_of.new.pool) o)) c.in-Some.is

pub applied-requires : goal.applied-requires
applied-requires c = applied_more c.in_ok-parts.ensures.extends c.args.left.now c.requires.left

pub applied-requires-2 : goal.applied-requires-2
applied-requires-2 c = applied_more (Extends-trans c.in_ok-parts.ensures.extends c.in_ok-left.ensures.extends) c.args.right.now c.requires.right

pub returns-clause-is : goal.returns-clause-is
returns-clause-is c =
    let f = tree c.args.pool.now in
    let a = c.args.left.now in
    let b = c.args.right.now in
    let q : Decision = Now (No (elims (f a.head) (spine_in f a.spine.items)) (elims (f b.head) (spine_in f b.spine.items)) []) in
    let e1 = Extends-tree c.in_ok-left.left c.in_ok-right.ensures.extends c.in_ok-left.ensures.is.within ∙ c.in_ok-left.ensures.is.is ∙ form_stays c.in_ok-parts.ensures.extends a c.requires.left in
    let e2 = c.in_ok-right.ensures.is.is ∙ form_stays (Extends-trans c.in_ok-parts.ensures.extends c.in_ok-left.ensures.extends) b c.requires.right in
    let x : _ = λ i. Now (No (e1 i) (e2 i) []) in
    sym (c.in_ok-parts.ensures.is q) ∙ ap (λ o. parts_or q (parts_in (tree c.parts_of.new.pool) o)) (none_of c.in_ok-parts.field-0 c.in_default.not-Some) ∙ sym x
