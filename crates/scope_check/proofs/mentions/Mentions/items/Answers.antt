use Rattle.std.proofs.Common.{rules, arith}
use Rattle.std.proofs.lemmas.Grind.{common_steps}
use Rattle.scope_check.specs.Mentions as spec
use Rattle.scope_check.proofs.MentionFolds.{all_next, all_end}
use Rattle.scope_check.proofs.mentions.Mentions.items.Goals as goal

pub loop-one-preserved : goal.loop-one-preserved
loop-one-preserved c =
    let e = all_next spec.in_item c.args.all.now c.loop-one.one-index c.one-item.result c.loop-one-test.true c.one-item.is in
    first_of (search rules, grind (arith, common_steps))

pub returns : goal.returns
returns c =
    let e = all_end spec.in_item c.args.all.now c.loop-one.one-index c.loop-one-test.false in
    first_of (search rules, grind (arith, common_steps))
