use Rattle.std.proofs.Common.{Ok, Err, sym, subst}
use Rattle.std.proofs.lemmas.Result.{err_from_is_err_and}
use Rattle.core_rules.specs.Term.{Term}
use Rattle.core_rules.specs.Signature.{FamDecl, Signature}
use Rattle.core_rules.specs.InScope.{FamilyInScope, any_meta}
use Rattle.core_terms.specs.Signature.{signature_in}
use Rattle.core_terms.proofs.SignatureGrowth.{signature_in-extends, Stands-extends}
use Rattle.kernel_rules.specs.FamilyReading.{FamilyOf}
use Rattle.file_load.specs.Kinds.{decl_kind}
use Rattle.file_load.specs.Judged.{Checks, family_in}
use Rattle.file_load.proofs.Accepted.{family_in_scope}
use Rattle.file_load.proofs.Steps.{family_not_elaborated, family_not_measured, family_not_checked, family_passed}
use Rattle.file_load.proofs.families.judge.Goals as goal

pub returns-in_err-family-clause-passed : goal.returns-in_err-family-clause-passed
returns-in_err-family-clause-passed c =
    let l = c.args.limits in
    let g : Signature Term = signature_in c.args.pool.now c.args.signature.now in
    let p = err_from_is_err_and c.from_residual.result c.from_residual.ensures.1 in
    rw (p.1, p.2) (family_not_elaborated l.fuel l.depth g c.args.pos c.args.decl.now c.in_err-family.field-0.0 c.in_err-family.ensures.elaborated)

pub returns-in_err-measure_family-clause-passed : goal.returns-in_err-measure_family-clause-passed
returns-in_err-measure_family-clause-passed c =
    let l = c.args.limits in
    let g : Signature Term = signature_in c.args.pool.now c.args.signature.now in
    let p = err_from_is_err_and c.from_residual-in_err-measure_family.result c.from_residual-in_err-measure_family.ensures.1 in
    rw (p.1, p.2) (family_not_measured l.fuel l.depth g c.args.pos c.args.decl.now (family_in c.elaborate.new.pool c.in_ok-family.family) c.in_ok-family.ensures.elaborated.1 c.in_err-measure_family.field-0.0 c.in_err-measure_family.ensures)

pub check-requires-clause-stands : goal.check-requires-clause-stands
check-requires-clause-stands c = rw c.in_ok-family.ensures.signature (Stands-extends c.args.pool.now c.elaborate.new.pool c.args.signature.now c.in_ok-family.ensures.extends c.requires.stands)

pub check-requires-clause-scope : goal.check-requires-clause-scope
check-requires-clause-scope c =
    let l = c.args.limits in
    let g : Signature Term = signature_in c.args.pool.now c.args.signature.now in
    let t : FamDecl Term = family_in c.elaborate.new.pool c.in_ok-family.family in
    let same = signature_in-extends c.args.pool.now c.elaborate.new.pool c.args.signature.now c.in_ok-family.ensures.extends c.requires.stands in
    rw c.in_ok-family.ensures.signature
    (subst (λ (h : Signature Term). FamilyInScope h any_meta t) (sym same)
    (family_in_scope l.fuel l.depth g c.args.decl.now (family_in c.elaborate.new.pool c.in_ok-family.family) c.requires.derivable c.in_ok-family.ensures.elaborated.1))

pub returns-in_err-check-clause-passed : goal.returns-in_err-check-clause-passed
returns-in_err-check-clause-passed c =
    let l = c.args.limits in
    let g : Signature Term = signature_in c.args.pool.now c.args.signature.now in
    let t : FamDecl Term = family_in c.elaborate.new.pool c.in_ok-family.family in
    let same = signature_in-extends c.args.pool.now c.elaborate.new.pool c.args.signature.now c.in_ok-family.ensures.extends c.requires.stands in
    let p = err_from_is_err_and c.from_residual-in_err-check.result c.from_residual-in_err-check.ensures.1 in
    rw (p.1, p.2) (family_not_checked l.fuel l.depth g c.args.pos c.args.decl.now (family_in c.elaborate.new.pool c.in_ok-family.family) c.in_ok-family.ensures.elaborated.1 c.in_ok-measure_family.ensures c.in_err-check.field-0.0
    (subst (λ (h : Signature Term). Checks (FamilyOf h l.fuel l.depth t) decl_kind c.args.pos (Err c.in_err-check.field-0.0)) same (rw c.in_ok-family.ensures.signature at c.in_err-check.ensures.checked)))

pub returns-clause-passed : goal.returns-clause-passed
returns-clause-passed c =
    let l = c.args.limits in
    let g : Signature Term = signature_in c.args.pool.now c.args.signature.now in
    let t : FamDecl Term = family_in c.elaborate.new.pool c.in_ok-family.family in
    let same = signature_in-extends c.args.pool.now c.elaborate.new.pool c.args.signature.now c.in_ok-family.ensures.extends c.requires.stands in
    family_passed l.fuel l.depth g c.args.pos c.args.decl.now c.elaborate.new.pool c.check.new.pool c.in_ok-family.family c.in_ok-family.ensures.elaborated.0 c.in_ok-family.ensures.elaborated.1 c.in_ok-measure_family.ensures
    (subst (λ (h : Signature Term). Checks (FamilyOf h l.fuel l.depth t) decl_kind c.args.pos (Ok tt)) same (rw c.in_ok-family.ensures.signature at c.in_ok-check.ensures.checked)) c.in_ok-check.ensures.extends
