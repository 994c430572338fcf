use Rattle.std.proofs.Common.{◌≡◌, ◌<◌, length, sym, ◌∙◌, ap, subst, arith}
use Rattle.std.specs.Prelude.{ℕ, List, Some, slice_get}
use Rattle.core_rules.specs.Signature.{ConDecl, fams}
use Rattle.core_rules.proofs.Heads.OneAnswer.{one_some}
use Rattle.core_terms.specs.Signature.{fam_of}
use Rattle.core_terms.specs.declared.signature.CoreDecl.{CoreDecl}
use Rattle.core_terms.proofs.Declared.{at-get}
use Rattle.std.proofs.lemmas.Option.{slice_get_within}
use Rattle.lhs_elab.proofs.FamilyCons.{con-there, con-in, there-total}
use Rattle.lhs_elab.proofs.families.con_decl.Goals as goal

pub con-fam-requires : goal.con-fam-requires
con-fam-requires c = there-total c.args.sig.now c.args.con (con-there c.args.sig.now c.args.con c.requires.con)

pub fam-requires : goal.fam-requires
fam-requires c =
    let g = c.args.sig.now in
    let t = con-there g c.args.con c.requires.con in
    let same : ◌≡◌ {A = ℕ × ℕ} (t.fam, t.place) (c.con-fam.result.0, c.con-fam.result.1) = one_some (sym t.is_place ∙ c.con-fam.ensures) in
    let l : t.fam < length (fams g) = slice_get_within (fams g) t.fam t.decl t.is_decl in
    subst (λ (i : ℕ). i < length (fams g)) (ap (λ (q : ℕ × ℕ). q.0) same) l

pub bounds-cons-at : goal.bounds-cons-at
bounds-cons-at c =
    let g = c.args.sig.now in
    let x = fam_of c.fam.result.now.decl in
    let t = con-there g c.args.con c.requires.con in
    let here : slice_get x.cons c.con-fam.result.1 ≡ Some t.con =
    sym (con-in g c.args.con c.con-fam.result.0 c.con-fam.result.1 c.con-fam.ensures x c.fam.ensures.is) ∙ (con-in g c.args.con t.fam t.place t.is_place t.decl t.is_decl ∙ t.is_con) in
    let e : c.as_slice-cons.result.now ≡ x.cons = c.as_slice-cons.ensures ∙ sym (ap (λ (d : CoreDecl). (fam_of d).cons) c.in-Family.is) in
    let l = slice_get_within x.cons c.con-fam.result.1 t.con here in
    let n = ap (λ (ks : List (ConDecl ℕ)). length ks) e in
    omega (arith, l, n)

pub returns : goal.returns
returns c =
    let g = c.args.sig.now in
    let x = fam_of c.fam.result.now.decl in
    let t = con-there g c.args.con c.requires.con in
    let here : slice_get x.cons c.con-fam.result.1 ≡ Some t.con =
    sym (con-in g c.args.con c.con-fam.result.0 c.con-fam.result.1 c.con-fam.ensures x c.fam.ensures.is) ∙ (con-in g c.args.con t.fam t.place t.is_place t.decl t.is_decl ∙ t.is_con) in
    let e : c.as_slice-cons.result.now ≡ x.cons = c.as_slice-cons.ensures ∙ sym (ap (λ (d : CoreDecl). (fam_of d).cons) c.in-Family.is) in
    let l = slice_get_within x.cons c.con-fam.result.1 t.con here in
    let n = ap (λ (ks : List (ConDecl ℕ)). length ks) e in
    let low : c.con-fam.result.1 < length c.as_slice-cons.result.now = omega (arith, l, n) in
    con-in g c.args.con c.con-fam.result.0 c.con-fam.result.1 c.con-fam.ensures x c.fam.ensures.is
    ∙ subst (λ (ks : List (ConDecl ℕ)). slice_get ks c.con-fam.result.1 ≡ Some c.index-cons-at.result) e (at-get c.as_slice-cons.result.now c.con-fam.result.1 c.index-cons-at.result low c.index-cons-at.is)
