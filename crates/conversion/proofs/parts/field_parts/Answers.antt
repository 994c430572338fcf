use Rattle.std.proofs.Common.{length, ap, sym, ◌∙◌, subst}
use Rattle.core_rules.specs.Bounded.{last_field}
use Rattle.term_pool.specs.Pool.{tree}
use Rattle.weak_head.specs.Elims.{AllBelow, spine_in}
use Rattle.conversion.specs.Spine.{cut_in}
use Rattle.conversion.proofs.Cuts.{cuts_both, cuts_left, cuts_right, cuts_none}
use Rattle.conversion.proofs.parts.field_parts.Goals as goal

pub projection_parts-requires-clause-cut : goal.projection_parts-requires-clause-cut
projection_parts-requires-clause-cut c = let n = length c.args.pool.now.trees in c.in-Some.ensures.below n (subst (AllBelow n) (sym c.as_slice.ensures) c.requires.left.1)

pub projection_parts-requires-clause-other : goal.projection_parts-requires-clause-other
projection_parts-requires-clause-other c = let n = length c.args.pool.now.trees in c.in-Some-last_field.ensures.below n (subst (AllBelow n) (sym c.as_slice-in-Some.ensures) c.requires.right.1)

pub returns-in_ok-made-in-Some-last_field-clause-is : goal.returns-in_ok-made-in-Some-last_field-clause-is
returns-in_ok-made-in-Some-last_field-clause-is c = λ q.
    let f = tree c.args.pool.now in
    let a = c.args.left.now in
    let b = c.args.right.now in
    c.in_ok-made-in-Some-last_field.ensures.is q
    ∙ cuts_both q (f a.head) (spine_in f a.spine.items) (f b.head) (spine_in f b.spine.items) (cut_in f c.in-Some.c) (cut_in f c.in-Some-last_field.d)
    (c.in-Some.ensures.is f ∙ ap (λ l. last_field (spine_in f l)) c.as_slice.ensures) (c.in-Some-last_field.ensures.is f ∙ ap (λ l. last_field (spine_in f l)) c.as_slice-in-Some.ensures)

pub returns-in-None-last_field-clause-is : goal.returns-in-None-last_field-clause-is
returns-in-None-last_field-clause-is c = λ q.
    let f = tree c.args.pool.now in
    let a = c.args.left.now in
    let b = c.args.right.now in
    cuts_left q (f a.head) (spine_in f a.spine.items) (f b.head) (spine_in f b.spine.items) (cut_in f c.in-Some.c)
    (c.in-Some.ensures.is f ∙ ap (λ l. last_field (spine_in f l)) c.as_slice.ensures) (c.in-None-last_field.ensures.is f ∙ ap (λ l. last_field (spine_in f l)) c.as_slice-in-Some.ensures)

pub returns-in-Some-last_field-2-clause-is : goal.returns-in-Some-last_field-2-clause-is
returns-in-Some-last_field-2-clause-is c = λ q.
    let f = tree c.args.pool.now in
    let a = c.args.left.now in
    let b = c.args.right.now in
    cuts_right q (f a.head) (spine_in f a.spine.items) (f b.head) (spine_in f b.spine.items) (cut_in f c.in-Some-last_field-2.field-0)
    (c.in-None.ensures.is f ∙ ap (λ l. last_field (spine_in f l)) c.as_slice.ensures) (c.in-Some-last_field-2.ensures.is f ∙ ap (λ l. last_field (spine_in f l)) c.as_slice-in-None.ensures)

pub returns-in_ok-made-in-None-last_field-2-clause-is : goal.returns-in_ok-made-in-None-last_field-2-clause-is
returns-in_ok-made-in-None-last_field-2-clause-is c = λ q.
    let f = tree c.args.pool.now in
    let a = c.args.left.now in
    let b = c.args.right.now in
    c.in_ok-made-in-None-last_field-2.ensures.is q
    ∙ cuts_none q (f a.head) (spine_in f a.spine.items) (f b.head) (spine_in f b.spine.items)
    (c.in-None.ensures.is f ∙ ap (λ l. last_field (spine_in f l)) c.as_slice.ensures) (c.in-None-last_field-2.ensures.is f ∙ ap (λ l. last_field (spine_in f l)) c.as_slice-in-None.ensures)
