use Rattle.core_rules.specs.Term.{Term}
use Rattle.core_rules.specs.Signature.{Signature}
use Rattle.core_terms.specs.Signature.{signature_in}
use Rattle.kernel_rules.specs.FamilyReading.{FamilyOf}
use Rattle.file_load.specs.Judged.{family_in}
use Rattle.file_load.proofs.Judging.{check_stops}
use Rattle.file_load.proofs.families.check.Goals as goal

pub returns-in-Ok-clause-checked : goal.returns-in-Ok-clause-checked
returns-in-Ok-clause-checked c = record { value = tt; is = c.in-Ok.ensures.answer }

pub returns-in-Err-clause-checked : goal.returns-in-Err-clause-checked
returns-in-Err-clause-checked c =
    let g : Signature Term = signature_in c.args.pool.now c.args.signature.now in
    rw c.family_not_checked.ensures (check_stops c.check_family.new.pool (FamilyOf g c.args.limits.fuel c.args.limits.depth (family_in c.args.pool.now c.args.family.now)) c.args.pos c.in-Err.error c.in-Err.ensures.answer)
