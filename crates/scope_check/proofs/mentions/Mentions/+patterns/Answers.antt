use Rattle.std.proofs.Common.{rules, arith}
use Rattle.std.proofs.lemmas.Grind.{common_steps}
use Rattle.scope_check.specs.Mentions as spec
use Rattle.scope_check.proofs.MentionFolds.{pattern_at, all_next, all_end}
use Rattle.scope_check.proofs.mentions.Mentions.+patterns.Goals as goal

pub pattern-returns : goal.pattern-returns
pattern-returns t c = rw (pattern_at c.args.found.now) c.pattern_in.ensures

pub patterns-loop-one-preserved : goal.patterns-loop-one-preserved
patterns-loop-one-preserved t c =
    let e = all_next spec.in_pattern c.args.all.now c.loop-one.one-index c.one-item.result c.loop-one-test.true c.one-item.is in
    first_of (search rules, grind (arith, common_steps))

pub patterns-returns : goal.patterns-returns
patterns-returns t c =
    let e = all_end spec.in_pattern c.args.all.now c.loop-one.one-index c.loop-one-test.false in
    first_of (search rules, grind (arith, common_steps))
