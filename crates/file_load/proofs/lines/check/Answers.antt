use Rattle.std.proofs.Common.{◌≡◌, ◌∙◌, []}
use Rattle.core_rules.specs.Term.{Term}
use Rattle.core_rules.specs.Signature.{Signature}
use Rattle.term_pool.specs.Pool.{tree}
use Rattle.core_terms.specs.Signature.{signature_in}
use Rattle.kernel_rules.specs.TermReading.{IsTypeOf}
use Rattle.file_load.proofs.Judging.{kernel_stops}
use Rattle.file_load.proofs.lines.check.Goals as goal

pub returns-in-Ok-clause-checked : goal.returns-in-Ok-clause-checked
returns-in-Ok-clause-checked c =
    let none : c.from_vec.result ≡ [] = c.from_vec.ensures ∙ c.new.ensures.items in
    record { value = c.in-Ok.field-0; is = rw none at c.in-Ok.ensures.answer }

pub returns-clause-checked : goal.returns-clause-checked
returns-clause-checked c =
    let g : Signature Term = signature_in c.args.pool.now c.args.signature.now in
    let none : c.from_vec.result ≡ [] = c.from_vec.ensures ∙ c.new.ensures.items in
    rw c.not_checked.ensures (kernel_stops c.is_type.new.pool (IsTypeOf g c.args.limits.fuel c.args.limits.depth [] (tree c.args.pool.now c.args.ty)) c.args.line.now.place.pos c.in-Err.error (rw none at c.in-Err.ensures.answer))
