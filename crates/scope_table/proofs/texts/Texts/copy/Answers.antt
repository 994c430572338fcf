use Rattle.std.proofs.Common.{rules, arith}
use Rattle.std.proofs.lemmas.Grind.{common_steps}
use Rattle.el_base.proofs.Lists.{take_next}
use Rattle.scope_table.proofs.texts.Texts.copy.Goals as goal

pub loop-at-preserved : goal.loop-at-preserved
loop-at-preserved c =
    let e = take_next c.args.self.now c.loop-at.at c.in-Some.text.now c.in-Some.ensures in
    first_of (search rules, grind (arith, common_steps))
