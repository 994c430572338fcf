use Rattle.std.proofs.Common.{◌∙◌, rules, arith}
use Rattle.std.proofs.lemmas.Grind.{common_steps}
use Rattle.file_load.specs.Unbuilt as spec
use Rattle.file_load.proofs.Firsts.{first_next}
use Rattle.file_load.proofs.unbuilt.in_items.Goals as goal

pub returns-in-Some : goal.returns-in-Some
returns-in-Some c =
    let e = c.loop-item.invariant ∙ first_next spec.in_item c.args.items.now c.loop-item.item-index c.item-item.result c.loop-item-test.true c.item-item.is in
    first_of (search rules, grind (arith, common_steps))
