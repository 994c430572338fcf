use Rattle.std.proofs.Common.{[], Ok, Err, sym, subst}
use Rattle.std.proofs.lemmas.Result.{err_from_is_err_and}
use Rattle.core_rules.specs.Term.{Term}
use Rattle.core_rules.specs.Signature.{Signature}
use Rattle.core_rules.specs.InScope.{InScope, any_meta}
use Rattle.term_pool.specs.Pool.{tree}
use Rattle.core_terms.specs.Signature.{signature_in}
use Rattle.core_terms.proofs.SignatureGrowth.{signature_in-extends, Stands-extends}
use Rattle.kernel_rules.specs.TermReading.{IsTypeOf}
use Rattle.file_load.specs.Kinds.{kernel_kind}
use Rattle.file_load.specs.Judged.{Checks, typed_in}
use Rattle.file_load.proofs.Accepted.{type_in_scope}
use Rattle.file_load.proofs.Steps.{type_not_elaborated, type_not_measured, type_not_checked, type_passed}
use Rattle.file_load.proofs.lines.judge_type.Goals as goal

pub returns-in_err-typed-clause-passed : goal.returns-in_err-typed-clause-passed
returns-in_err-typed-clause-passed c =
    let l = c.args.limits in
    let g : Signature Term = signature_in c.args.pool.now c.args.signature.now in
    let p = err_from_is_err_and c.from_residual.result c.from_residual.ensures.1 in
    rw (p.1, p.2) (type_not_elaborated l.fuel l.depth g c.args.line.now c.in_err-typed.field-0.0 c.in_err-typed.ensures.elaborated)

pub returns-in_err-measure_term-clause-passed : goal.returns-in_err-measure_term-clause-passed
returns-in_err-measure_term-clause-passed c =
    let l = c.args.limits in
    let g : Signature Term = signature_in c.args.pool.now c.args.signature.now in
    let p = err_from_is_err_and c.from_residual-in_err-measure_term.result c.from_residual-in_err-measure_term.ensures.1 in
    rw (p.1, p.2) (type_not_measured l.fuel l.depth g c.args.line.now (typed_in c.elaborate.new.pool c.in_ok-typed.typed) c.in_ok-typed.ensures.elaborated.1 c.in_err-measure_term.field-0.0 c.in_err-measure_term.ensures)

pub check-requires-clause-stands : goal.check-requires-clause-stands
check-requires-clause-stands c = Stands-extends c.args.pool.now c.elaborate.new.pool c.args.signature.now c.in_ok-typed.ensures.extends c.requires.stands

pub check-requires-clause-scope : goal.check-requires-clause-scope
check-requires-clause-scope c =
    let l = c.args.limits in
    let g : Signature Term = signature_in c.args.pool.now c.args.signature.now in
    let t : Term = tree c.elaborate.new.pool c.in_ok-typed.typed.0 in
    let same = signature_in-extends c.args.pool.now c.elaborate.new.pool c.args.signature.now c.in_ok-typed.ensures.extends c.requires.stands in
    subst (λ (h : Signature Term). InScope h any_meta 0 t) (sym same)
    (type_in_scope l.fuel l.depth g c.args.line.now.ty (typed_in c.elaborate.new.pool c.in_ok-typed.typed) c.requires.derivable c.in_ok-typed.ensures.elaborated.1)

pub returns-in_err-check-clause-passed : goal.returns-in_err-check-clause-passed
returns-in_err-check-clause-passed c =
    let l = c.args.limits in
    let g : Signature Term = signature_in c.args.pool.now c.args.signature.now in
    let t : Term = tree c.elaborate.new.pool c.in_ok-typed.typed.0 in
    let same = signature_in-extends c.args.pool.now c.elaborate.new.pool c.args.signature.now c.in_ok-typed.ensures.extends c.requires.stands in
    let p = err_from_is_err_and c.from_residual-in_err-check.result c.from_residual-in_err-check.ensures.1 in
    rw (p.1, p.2) (type_not_checked l.fuel l.depth g c.args.line.now (typed_in c.elaborate.new.pool c.in_ok-typed.typed) c.in_ok-typed.ensures.elaborated.1 c.in_ok-measure_term.ensures c.in_err-check.field-0.0
    (subst (λ (h : Signature Term). Checks (IsTypeOf h l.fuel l.depth [] t) kernel_kind c.args.line.now.place.pos (Err c.in_err-check.field-0.0)) same c.in_err-check.ensures.checked))

pub returns-clause-passed : goal.returns-clause-passed
returns-clause-passed c =
    let l = c.args.limits in
    let g : Signature Term = signature_in c.args.pool.now c.args.signature.now in
    let t : Term = tree c.elaborate.new.pool c.in_ok-typed.typed.0 in
    let same = signature_in-extends c.args.pool.now c.elaborate.new.pool c.args.signature.now c.in_ok-typed.ensures.extends c.requires.stands in
    type_passed l.fuel l.depth g c.args.line.now c.elaborate.new.pool c.check.new.pool c.in_ok-typed.typed c.in_ok-typed.ensures.elaborated.0 c.in_ok-typed.ensures.elaborated.1 c.in_ok-measure_term.ensures
    (subst (λ (h : Signature Term). Checks (IsTypeOf h l.fuel l.depth [] t) kernel_kind c.args.line.now.place.pos (Ok tt)) same c.in_ok-check.ensures.checked) c.in_ok-check.ensures.extends
