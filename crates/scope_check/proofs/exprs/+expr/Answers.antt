use Rattle.std.proofs.Common.{◌∙◌, [], ◌∷◌, rules, arith}
use Rattle.std.proofs.lemmas.Grind.{common_steps}
use Rattle.scope_check.specs.Exprs as spec
use Rattle.scope_check.specs.Layers as layer
use Rattle.scope_check.proofs.Folds.{head_at, arg_at, binder_at, value_at}
use Rattle.scope_table.proofs.Inside.{inside-trans}
use Rattle.scope_check.proofs.Loops.{each_next, each_end, binders_next, binders_end}
use Rattle.scope_check.proofs.exprs.+expr.Goals as goal

pub head-returns-clause-answers : goal.head-returns-clause-answers
head-returns-clause-answers t c = rw (head_at c.args.scope.now c.args.holes c.args.locals.now c.args.found.now) c.head_in.ensures.answers

pub arg-returns-clause-answers : goal.arg-returns-clause-answers
arg-returns-clause-answers t c = rw (arg_at c.args.scope.now c.args.holes c.args.locals.now c.args.found.now) c.arg_in.ensures.answers

pub value-returns-clause-answers : goal.value-returns-clause-answers
value-returns-clause-answers t c = rw (value_at c.args.scope.now c.args.holes c.args.locals.now c.args.found.now) c.value_in.ensures.answers

pub binder-returns-clause-binds : goal.binder-returns-clause-binds
binder-returns-clause-binds t c = rw (binder_at c.args.scope.now c.args.holes c.args.locals.now c.args.found.now) c.binder_in.ensures.binds

pub args-returns-in_err-arg-clause-answers : goal.args-returns-in_err-arg-clause-answers
args-returns-in_err-arg-clause-answers t c =
    let e = c.loop-one.invariant.left ∙ each_next (layer.arg c.args.scope.now c.args.holes c.args.locals.now) c.loop-one.found c.args.all.now c.loop-one.one-index c.one-item.result c.loop-one-test.true c.one-item.is in
    first_of (search rules, grind (arith, common_steps))

pub args-loop-one-preserved : goal.args-loop-one-preserved
args-loop-one-preserved t c =
    let e = c.loop-one.invariant.left ∙ each_next (layer.arg c.args.scope.now c.args.holes c.args.locals.now) c.loop-one.found c.args.all.now c.loop-one.one-index c.one-item.result c.loop-one-test.true c.one-item.is in
    first_of (search rules, grind (arith, common_steps))

pub args-returns-clause-answers : goal.args-returns-clause-answers
args-returns-clause-answers t c =
    c.loop-one.invariant.left ∙ each_end (layer.arg c.args.scope.now c.args.holes c.args.locals.now) c.loop-one.found c.args.all.now c.loop-one.one-index c.loop-one-test.false

pub values-returns-in_err-value-clause-answers : goal.values-returns-in_err-value-clause-answers
values-returns-in_err-value-clause-answers t c =
    let e = c.loop-one.invariant.left ∙ each_next (layer.value c.args.scope.now c.args.holes c.args.locals.now) c.loop-one.found c.args.all.now c.loop-one.one-index c.one-item.result c.loop-one-test.true c.one-item.is in
    first_of (search rules, grind (arith, common_steps))

pub values-loop-one-preserved : goal.values-loop-one-preserved
values-loop-one-preserved t c =
    let e = c.loop-one.invariant.left ∙ each_next (layer.value c.args.scope.now c.args.holes c.args.locals.now) c.loop-one.found c.args.all.now c.loop-one.one-index c.one-item.result c.loop-one-test.true c.one-item.is in
    first_of (search rules, grind (arith, common_steps))

pub values-returns-clause-answers : goal.values-returns-clause-answers
values-returns-clause-answers t c =
    c.loop-one.invariant.left ∙ each_end (layer.value c.args.scope.now c.args.holes c.args.locals.now) c.loop-one.found c.args.all.now c.loop-one.one-index c.loop-one-test.false

pub binders-returns-in_err-binder-clause-binds : goal.binders-returns-in_err-binder-clause-binds
binders-returns-in_err-binder-clause-binds t c =
    let e = c.loop-one.invariant.left ∙ binders_next (spec.binder_of c.args.scope.now c.args.holes) c.args.all.now c.loop-one.one-index c.loop-one.locals c.one-item.result c.loop-one.found c.loop-one-test.true c.one-item.is in
    first_of (search rules, grind (arith, common_steps))

pub binders-loop-one-preserved : goal.binders-loop-one-preserved
binders-loop-one-preserved t c =
    let e = c.loop-one.invariant.left ∙ binders_next (spec.binder_of c.args.scope.now c.args.holes) c.args.all.now c.loop-one.one-index c.loop-one.locals c.one-item.result c.loop-one.found c.loop-one-test.true c.one-item.is in
    record {
      inside = inside-trans c.args.locals.now c.loop-one.locals c.binder.new.locals c.loop-one.invariant.inside (c.in_ok-binder.ensures.inside);
      left = first_of (search rules, grind (arith, common_steps));
    }

pub binders-returns-clause-binds : goal.binders-returns-clause-binds
binders-returns-clause-binds t c =
    c.loop-one.invariant.left ∙ binders_end (spec.binder_of c.args.scope.now c.args.holes) c.args.all.now c.loop-one.one-index c.loop-one.locals c.loop-one.found c.loop-one-test.false

pub head_in-returns-in_ok-right-in-Arrow-clause-locals : goal.head_in-returns-in_ok-right-in-Arrow-clause-locals
head_in-returns-in_ok-right-in-Arrow-clause-locals t c =
    c.cut.ensures c.args.locals.now (record { more = [] ∷ []; is = first_of (search rules, grind (arith, common_steps)) }) (first_of (search rules, grind (arith, common_steps)))
