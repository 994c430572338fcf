use Rattle.std.proofs.Common.{◌∙◌, rules, arith}
use Rattle.std.proofs.lemmas.Grind.{common_steps}
use Rattle.scope_check.proofs.PatternFolds.{pattern_at, patterns_next, patterns_end}
use Rattle.scope_check.proofs.patterns.+pattern.Goals as goal

pub pattern-returns-clause-binds : goal.pattern-returns-clause-binds
pattern-returns-clause-binds t c = rw (pattern_at c.args.scope.now c.args.locals.now c.args.depth c.args.seen.now c.args.found.now) c.pattern_in.ensures.binds

pub patterns-returns-in_err-pattern-clause-binds : goal.patterns-returns-in_err-pattern-clause-binds
patterns-returns-in_err-pattern-clause-binds t c =
    let e = c.loop-one.invariant.left ∙ patterns_next c.args.scope.now c.args.locals.now c.args.depth c.args.all.now c.loop-one.one-index c.loop-one.seen c.one-item.result c.loop-one.found c.loop-one-test.true c.one-item.is in
    first_of (search rules, grind (arith, common_steps))

pub patterns-loop-one-preserved : goal.patterns-loop-one-preserved
patterns-loop-one-preserved t c =
    let e = c.loop-one.invariant.left ∙ patterns_next c.args.scope.now c.args.locals.now c.args.depth c.args.all.now c.loop-one.one-index c.loop-one.seen c.one-item.result c.loop-one.found c.loop-one-test.true c.one-item.is in
    first_of (search rules, grind (arith, common_steps))

pub patterns-returns-clause-binds : goal.patterns-returns-clause-binds
patterns-returns-clause-binds t c =
    c.loop-one.invariant.left ∙ patterns_end c.args.scope.now c.args.locals.now c.args.depth c.args.all.now c.loop-one.one-index c.loop-one.seen c.loop-one.found c.loop-one-test.false
