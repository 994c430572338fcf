use Rattle.std.proofs.Common.{rules, arith}
use Rattle.std.proofs.lemmas.Grind.{common_steps}
use Rattle.scope_check.specs.Mentions as spec
use Rattle.scope_check.proofs.MentionFolds.{expr_at, arg_at, binder_at, value_at, all_next, all_end}
use Rattle.scope_check.proofs.mentions.Mentions.+mentions.Goals as goal

pub expr-returns : goal.expr-returns
expr-returns t c = rw (expr_at c.args.found.now) c.expr_in.ensures

pub arg-returns : goal.arg-returns
arg-returns t c = rw (arg_at c.args.found.now) c.arg_in.ensures

pub binder-returns : goal.binder-returns
binder-returns t c = rw (binder_at c.args.found.now) c.binder_in.ensures

pub value-returns : goal.value-returns
value-returns t c = rw (value_at c.args.found.now) c.value_in.ensures

pub args-loop-one-preserved : goal.args-loop-one-preserved
args-loop-one-preserved t c =
    let e = all_next spec.in_arg c.args.all.now c.loop-one.one-index c.one-item.result c.loop-one-test.true c.one-item.is in
    first_of (search rules, grind (arith, common_steps))

pub args-returns : goal.args-returns
args-returns t c =
    let e = all_end spec.in_arg c.args.all.now c.loop-one.one-index c.loop-one-test.false in
    first_of (search rules, grind (arith, common_steps))

pub binders-loop-one-preserved : goal.binders-loop-one-preserved
binders-loop-one-preserved t c =
    let e = all_next spec.in_binder c.args.all.now c.loop-one.one-index c.one-item.result c.loop-one-test.true c.one-item.is in
    first_of (search rules, grind (arith, common_steps))

pub binders-returns : goal.binders-returns
binders-returns t c =
    let e = all_end spec.in_binder c.args.all.now c.loop-one.one-index c.loop-one-test.false in
    first_of (search rules, grind (arith, common_steps))

pub values-loop-one-preserved : goal.values-loop-one-preserved
values-loop-one-preserved t c =
    let e = all_next spec.in_value c.args.all.now c.loop-one.one-index c.one-item.result c.loop-one-test.true c.one-item.is in
    first_of (search rules, grind (arith, common_steps))

pub values-returns : goal.values-returns
values-returns t c =
    let e = all_end spec.in_value c.args.all.now c.loop-one.one-index c.loop-one-test.false in
    first_of (search rules, grind (arith, common_steps))
