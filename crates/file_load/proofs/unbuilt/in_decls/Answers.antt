use Rattle.std.proofs.Common.{◌∙◌, rules, arith}
use Rattle.std.proofs.lemmas.Grind.{common_steps}
use Rattle.file_load.specs.Unbuilt as spec
use Rattle.file_load.proofs.Firsts.{first_next}
use Rattle.file_load.proofs.unbuilt.in_decls.Goals as goal

pub returns-in-Some : goal.returns-in-Some
returns-in-Some c =
    let e = c.loop-decl.invariant ∙ first_next spec.in_decl c.args.decls.now c.loop-decl.decl-index c.decl-item.result c.loop-decl-test.true c.decl-item.is in
    first_of (search rules, grind (arith, common_steps))
