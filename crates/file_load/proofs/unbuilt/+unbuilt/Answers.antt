use Rattle.std.proofs.Common.{◌∙◌, rules, arith}
use Rattle.std.proofs.lemmas.Grind.{common_steps}
use Rattle.file_load.specs.Unbuilt as spec
use Rattle.file_load.proofs.Firsts.{first_by_next, first_next}
use Rattle.file_load.proofs.unbuilt.+unbuilt.Goals as goal

pub in_args-returns-in-Some : goal.in_args-returns-in-Some
in_args-returns-in-Some t c =
    let e = c.loop-arg.invariant ∙ first_next spec.in_arg c.args.args.now c.loop-arg.arg-index c.arg-item.result c.loop-arg-test.true c.arg-item.is in
    first_of (search rules, grind (arith, common_steps))

pub in_binders-returns-in-Some : goal.in_binders-returns-in-Some
in_binders-returns-in-Some t c =
    let e = c.loop-binder.invariant ∙ first_by_next spec.in_binder spec.of_function_type c.args.binders.now c.loop-binder.binder-index c.binder-item.result c.loop-binder-test.true c.binder-item.is in
    first_of (search rules, grind (arith, common_steps))

pub in_lambda-returns-in-Some : goal.in_lambda-returns-in-Some
in_lambda-returns-in-Some t c =
    let e = c.loop-binder.invariant ∙ first_by_next spec.in_binder spec.of_lambda c.args.binders.now c.loop-binder.binder-index c.binder-item.result c.loop-binder-test.true c.binder-item.is in
    first_of (search rules, grind (arith, common_steps))

pub in_values-returns-in-Some : goal.in_values-returns-in-Some
in_values-returns-in-Some t c =
    let e = c.loop-value.invariant ∙ first_next spec.in_value c.args.values.now c.loop-value.value-index c.value-item.result c.loop-value-test.true c.value-item.is in
    first_of (search rules, grind (arith, common_steps))
