use Rattle.core_rules.specs.Term.{Term}
use Rattle.core_rules.specs.Signature.{Signature}
use Rattle.core_terms.specs.Signature.{signature_in}
use Rattle.data_rules.specs.Families.{WrittenFamilyOf}
use Rattle.file_load.proofs.Judging.{family_stops}
use Rattle.file_load.proofs.families.elaborate.Goals as goal

pub returns-in-Err-clause-elaborated : goal.returns-in-Err-clause-elaborated
returns-in-Err-clause-elaborated c =
    let g : Signature Term = signature_in c.args.pool.now c.args.signature.now in
    rw c.family_not_elaborated.ensures (family_stops c.elab_written.new.pool (WrittenFamilyOf g c.args.limits.fuel c.args.limits.depth c.args.decl.now) c.in-Err.error c.in-Err.ensures.answer)
