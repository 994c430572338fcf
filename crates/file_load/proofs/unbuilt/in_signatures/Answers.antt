use Rattle.std.proofs.Common.{◌∙◌, rules, arith}
use Rattle.std.proofs.lemmas.Grind.{common_steps}
use Rattle.file_load.specs.Unbuilt as spec
use Rattle.file_load.proofs.Firsts.{first_next}
use Rattle.file_load.proofs.unbuilt.in_signatures.Goals as goal

pub returns-in-Some : goal.returns-in-Some
returns-in-Some c =
    let e = c.loop-signature.invariant ∙ first_next spec.in_signature c.args.signatures.now c.loop-signature.signature-index c.signature-item.result c.loop-signature-test.true c.signature-item.is in
    first_of (search rules, grind (arith, common_steps))
