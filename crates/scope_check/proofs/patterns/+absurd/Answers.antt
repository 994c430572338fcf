use Rattle.std.proofs.Common.{rules, arith}
use Rattle.std.proofs.lemmas.Grind.{common_steps}
use Rattle.scope_check.specs.Patterns as spec
use Rattle.scope_check.proofs.PatternFolds.{absurd_at, any_next, any_end}
use Rattle.scope_check.proofs.patterns.+absurd.Goals as goal

pub is_absurd-returns : goal.is_absurd-returns
is_absurd-returns t c = rw (absurd_at c.args.found.now) c.absurd_in.ensures

pub any_absurd-returns-then-is_absurd : goal.any_absurd-returns-then-is_absurd
any_absurd-returns-then-is_absurd t c =
    let e = any_next spec.is_absurd c.args.all.now c.loop-one.one-index c.one-item.result c.loop-one-test.true c.one-item.is in
    first_of (search rules, grind (arith, common_steps))

pub any_absurd-loop-one-preserved : goal.any_absurd-loop-one-preserved
any_absurd-loop-one-preserved t c =
    let e = any_next spec.is_absurd c.args.all.now c.loop-one.one-index c.one-item.result c.loop-one-test.true c.one-item.is in
    first_of (search rules, grind (arith, common_steps))

pub any_absurd-returns : goal.any_absurd-returns
any_absurd-returns t c =
    let e = any_end spec.is_absurd c.args.all.now c.loop-one.one-index c.loop-one-test.false in
    first_of (search rules, grind (arith, common_steps))
