use Rattle.std.proofs.Common.{◌≡◌, ◌<◌, ℕ, length, sym, subst, ◌∙◌}
use Rattle.std.specs.Prelude.{Option, IfSome}
use Rattle.core_rules.specs.Signature.{FamDecl, fams}
use Rattle.core_terms.specs.Signature.{signature_in}
use Rattle.lhs_elab.specs.declared.families.AtFamily.{AtFamily}
use Rattle.lhs_elab.specs.Families.{IsFamily}
use Rattle.lhs_elab.proofs.FamilyCons.{record-data, data-is, fam-there}
use Rattle.lhs_elab.proofs.families.data_of.Goals as goal

pub returns-then-is_record-clause-is : goal.returns-then-is_record-clause-is
returns-then-is_record-clause-is c = λ p o q h.
    let g = c.args.sig.now in
    let a = c.in_ok-at.at in
    let k = subst (λ (f : Option AtFamily). IsFamily p (signature_in p g) o f) c.in_ok-at.was h in
    let l : a.fam < length (fams g) = subst (λ (f : Option AtFamily). IfSome f (λ (w : AtFamily). w.fam < length (fams g))) c.in_ok-at.was c.requires.found in
    let d = fam-there g a.fam l in
    let t : c.is_record.result ≡ d.0.is_record = subst (λ (f : Option (FamDecl ℕ)). IfSome f (λ (w : FamDecl ℕ). c.is_record.result ≡ w.is_record)) d.1 c.is_record.ensures in
    record-data p g o q a k d.0 d.1 (sym t ∙ c.if-is_record.true)

pub returns-clause-is : goal.returns-clause-is
returns-clause-is c = λ p o q h.
    let g = c.args.sig.now in
    let a = c.in_ok-at.at in
    let k = subst (λ (f : Option AtFamily). IsFamily p (signature_in p g) o f) c.in_ok-at.was h in
    let l : a.fam < length (fams g) = subst (λ (f : Option AtFamily). IfSome f (λ (w : AtFamily). w.fam < length (fams g))) c.in_ok-at.was c.requires.found in
    let d = fam-there g a.fam l in
    let t : c.is_record.result ≡ d.0.is_record = subst (λ (f : Option (FamDecl ℕ)). IfSome f (λ (w : FamDecl ℕ). c.is_record.result ≡ w.is_record)) d.1 c.is_record.ensures in
    data-is p g o q a k d.0 d.1 (sym t ∙ c.if-is_record.false)
