use Rattle.std.proofs.Common.{◌≡◌, ◌<◌, ℕ, length, sym, subst, ◌∙◌, arith}
use Rattle.std.specs.Prelude.{Option, IfSome}
use Rattle.core_rules.specs.Signature.{FamDecl, fams}
use Rattle.core_terms.specs.Signature.{signature_in}
use Rattle.lhs_elab.specs.declared.families.AtFamily.{AtFamily}
use Rattle.lhs_elab.specs.Families.{IsFamily}
use Rattle.lhs_elab.proofs.FamilyCons.{con-there, decl-there, there-total, own-missing, own-other, own-coinductive, own-is, fam-there}
use Rattle.lhs_elab.proofs.families.for_con.Goals as goal

pub returns-then-not-has_con-clause-is : goal.returns-then-not-has_con-clause-is
returns-then-not-has_con-clause-is c = λ p o h.
    let g = c.args.sig.now in
    let k = subst (λ (f : Option AtFamily). IsFamily p (signature_in p g) o f) c.in_ok-at.was h in
    own-missing p g c.args.con o c.in_ok-at.at k (sym c.has_con.ensures ∙ c.if-not-has_con.true)

pub con-requires : goal.con-requires
con-requires c = there-total c.args.sig.now c.args.con (con-there c.args.sig.now c.args.con (sym c.has_con.ensures ∙ c.if-not-has_con.false))

pub returns-then-number-clause-is : goal.returns-then-number-clause-is
returns-then-number-clause-is c = λ p o h.
    let g = c.args.sig.now in
    let k = subst (λ (f : Option AtFamily). IsFamily p (signature_in p g) o f) c.in_ok-at.was h in
    own-other p g c.args.con c.con.result.0 c.con.result.1 c.con.ensures o c.in_ok-at.at k (λ e. absurd (omega (arith, e, c.if-number.true, c.number.ensures, c.number-2.ensures)))

pub returns-then-is_coinductive-clause-is : goal.returns-then-is_coinductive-clause-is
returns-then-is_coinductive-clause-is c = λ p o h.
    let g = c.args.sig.now in
    let a = c.in_ok-at.at in
    let k = subst (λ (f : Option AtFamily). IsFamily p (signature_in p g) o f) c.in_ok-at.was h in
    let l : a.fam < length (fams g) = subst (λ (f : Option AtFamily). IfSome f (λ (w : AtFamily). w.fam < length (fams g))) c.in_ok-at.was c.requires.found in
    let d = fam-there g a.fam l in
    let t : c.is_coinductive.result ≡ d.0.coinductive = subst (λ (f : Option (FamDecl ℕ)). IfSome f (λ (w : FamDecl ℕ). c.is_coinductive.result ≡ w.coinductive)) d.1 c.is_coinductive.ensures in
    own-coinductive p g c.args.con c.con.result.0 c.con.result.1 c.con.ensures o a k d.0 d.1 (sym t ∙ c.if-is_coinductive.true)

pub returns-clause-is : goal.returns-clause-is
returns-clause-is c = λ p o h.
    let g = c.args.sig.now in
    let a = c.in_ok-at.at in
    let k = subst (λ (f : Option AtFamily). IsFamily p (signature_in p g) o f) c.in_ok-at.was h in
    let l : a.fam < length (fams g) = subst (λ (f : Option AtFamily). IfSome f (λ (w : AtFamily). w.fam < length (fams g))) c.in_ok-at.was c.requires.found in
    let d = fam-there g a.fam l in
    let t : c.is_coinductive.result ≡ d.0.coinductive = subst (λ (f : Option (FamDecl ℕ)). IfSome f (λ (w : FamDecl ℕ). c.is_coinductive.result ≡ w.coinductive)) d.1 c.is_coinductive.ensures in
    let same : c.con.result.0 ≡ a.fam = omega (arith, c.if-number.false, c.number.ensures, c.number-2.ensures) in
    let x = decl-there g c.args.con (sym c.has_con.ensures ∙ c.if-not-has_con.false) in
    own-is p g c.args.con c.con.result.0 c.con.result.1 c.con.ensures o a k d.0 d.1 (sym t ∙ c.if-is_coinductive.false) same x.0 x.1
