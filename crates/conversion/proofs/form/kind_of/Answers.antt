use Rattle.std.proofs.Common.{Some, None, ap, sym, ◌∙◌}
use Rattle.core_rules.specs.Bounded.{last_field}
use Rattle.term_pool.specs.Pool.{tree, args}
use Rattle.core_terms.specs.Signature.{signature_in}
use Rattle.weak_head.specs.Elims.{spine_in}
use Rattle.conversion.specs.Form.{value_of}
use Rattle.conversion.proofs.Cuts.{args_by, no_args_by, length_spine}
use Rattle.conversion.proofs.Records.{kind_as, no_value}
use Rattle.conversion.proofs.form.kind_of.Goals as goal

pub returns-then-is_some-clause-is : goal.returns-then-is_some-clause-is
returns-then-is_some-clause-is c =
    let p = c.args.pool.now in
    let g = signature_in p c.args.sig.now in
    let xs = c.args.term.now.spine.items in
    let es = spine_in (tree p) xs in
    let l = c.last_field.ensures.is (tree p) ∙ ap (λ l. last_field (spine_in (tree p) l)) c.as_slice.ensures in
    kind_as g (tree p c.args.term.now.head) c.in-Con.con (args p c.in-Con.params) es None c.in-Con.ensures.is
    (sym (no_value es (no_args_by (tree p) es c.last_field.result (sym c.is_some.ensures ∙ c.if-is_some.true) l) g c.in-Con.con))

pub returns-in-Some-clause-is : goal.returns-in-Some-clause-is
returns-in-Some-clause-is c =
    let p = c.args.pool.now in
    let g = signature_in p c.args.sig.now in
    let xs = c.args.term.now.spine.items in
    let es = spine_in (tree p) xs in
    let l = c.last_field.ensures.is (tree p) ∙ ap (λ l. last_field (spine_in (tree p) l)) c.as_slice.ensures in
    kind_as g (tree p c.args.term.now.head) c.in-Con.con (args p c.in-Con.params) es (Some (value_of es c.in-Some.fam)) c.in-Con.ensures.is
    (c.in-Some.ensures p es (args_by (tree p) es c.last_field.result (sym c.is_some.ensures ∙ c.if-is_some.false) l) (length_spine (tree p) xs ∙ sym c.len.ensures.value))

pub returns-in-Some-clause-args : goal.returns-in-Some-clause-args
returns-in-Some-clause-args c = λ f.
    let xs = c.args.term.now.spine.items in
    args_by f (spine_in f xs) c.last_field.result (sym c.is_some.ensures ∙ c.if-is_some.false) (c.last_field.ensures.is f ∙ ap (λ l. last_field (spine_in f l)) c.as_slice.ensures)

pub returns-in-None-clause-is : goal.returns-in-None-clause-is
returns-in-None-clause-is c =
    let p = c.args.pool.now in
    let g = signature_in p c.args.sig.now in
    let xs = c.args.term.now.spine.items in
    let es = spine_in (tree p) xs in
    let l = c.last_field.ensures.is (tree p) ∙ ap (λ l. last_field (spine_in (tree p) l)) c.as_slice.ensures in
    kind_as g (tree p c.args.term.now.head) c.in-Con.con (args p c.in-Con.params) es None c.in-Con.ensures.is
    (c.in-None.ensures p es (args_by (tree p) es c.last_field.result (sym c.is_some.ensures ∙ c.if-is_some.false) l) (length_spine (tree p) xs ∙ sym c.len.ensures.value))
