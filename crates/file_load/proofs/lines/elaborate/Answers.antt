use Rattle.std.proofs.Common.{[]}
use Rattle.core_rules.specs.Term.{Term}
use Rattle.core_rules.specs.Signature.{Signature}
use Rattle.core_terms.specs.Signature.{signature_in}
use Rattle.written_rules.specs.Expressions.{WrittenTypeOf}
use Rattle.file_load.proofs.Judging.{elab_stops}
use Rattle.file_load.proofs.lines.elaborate.Goals as goal

pub returns-in-Err-clause-elaborated : goal.returns-in-Err-clause-elaborated
returns-in-Err-clause-elaborated c =
    let g : Signature Term = signature_in c.args.pool.now c.args.signature.now in
    rw c.not_elaborated.ensures (elab_stops c.type_written.new.pool (WrittenTypeOf g c.args.limits.fuel c.args.limits.depth [] c.args.line.now.ty) c.in-Err.error c.in-Err.ensures.answer)
