use Rattle.std.proofs.Common.{refl, rules, arith}
use Rattle.std.proofs.lemmas.Grind.{common_steps}
use Rattle.file_load.specs.Lines.{FamilyPasses}
use Rattle.file_load.specs.Judged.{declared}
use Rattle.file_load.proofs.Accepted.{family_derivable}
use Rattle.file_load.proofs.Judging.{family_accepts}
use Rattle.file_load.proofs.families.declare_family.Goals as goal

pub returns : goal.returns
returns c =
    let old = c.args.core.now in
    let l = c.args.limits in
    let is = c.in_ok-family.ensures.passed in
    family_accepts (FamilyPasses l.fuel l.depth (declared old) c.args.pos c.args.decl.now) old (record { scope = old.scope; pool = c.judge.new.pool; signature = c.add.new.self; alloc = old.alloc })
    c.in_ok-family.family c.requires.agrees c.in_ok-family.ensures.extends is.0.family is.0.within is.1 (first_of (search rules, grind (arith, common_steps))) refl
    (λ g j. family_derivable l.fuel l.depth (declared old) c.args.pos c.args.decl.now c.requires.agrees.derivable g j)
