use Rattle.std.proofs.Common.{◌≡◌, ◌<◌, ℕ, List, length, map, arith, ap, sym, subst, ◌∙◌}
use Rattle.std.specs.Prelude.{slice_get, Some}
use Rattle.std.specs.List.{AllByRecursion}
use Rattle.el_base.proofs.Throughout.{all-at}
use Rattle.core_rules.specs.Signature.{ConDecl}
use Rattle.core_rules.specs.Mapped.{AllCon}
use Rattle.core_rules.specs.Substitution.{under}
use Rattle.core_rules.specs.Elimination.{con_type}
use Rattle.core_rules.specs.Typing.{IsCon}
use Rattle.term_pool.specs.Pool.{StandsFor, tree}
use Rattle.core_terms.specs.Signature.{fam_of, signature_in}
use Rattle.core_terms.specs.declared.signature.CoreDecl.{CoreDecl}
use Rattle.core_terms.proofs.Declared.{at-get}
use Rattle.declared_types.proofs.Grown.{all-grown, fam_within}
use Rattle.declared_types.proofs.Named.{con_below, con_fam_below, con_in, con_type-is, if_ok}
use Rattle.declared_types.proofs.constructors.type_of_con.Goals as goal

pub con-fam-requires : goal.con-fam-requires
con-fam-requires c = con_below c.args.pool.now c.args.sig.now c.args.con c.requires.con

pub fam-requires : goal.fam-requires
fam-requires c = con_fam_below c.args.pool.now c.args.sig.now c.args.con c.con-fam.result.0 c.con-fam.result.1 c.con-fam.ensures c.requires.con

pub bounds-as_slice-at : goal.bounds-as_slice-at
bounds-as_slice-at c =
    let x = fam_of c.fam.result.now.decl in
    let l = con_in c.args.pool.now c.args.sig.now c.args.con c.con-fam.result.0 c.con-fam.result.1 x c.con-fam.ensures c.fam.ensures.is c.requires.con in
    let e : c.as_slice.result.now ≡ x.cons = c.as_slice.ensures ∙ sym (ap (λ (d : CoreDecl). (fam_of d).cons) c.in-Family.is) in
    let n = ap length e in
    omega (arith, l, n)

pub con_type-requires-clause-con : goal.con_type-requires-clause-con
con_type-requires-clause-con c =
    let p = c.args.pool.now in
    let x = fam_of c.fam.result.now.decl in
    let e : c.as_slice.result.now ≡ x.cons = c.as_slice.ensures ∙ sym (ap (λ (d : CoreDecl). (fam_of d).cons) c.in-Family.is) in
    let a : AllByRecursion (AllCon (λ t. t < length p.trees)) c.as_slice.result.now = subst (λ (ks : List (ConDecl ℕ)). AllByRecursion (AllCon (λ t. t < length p.trees)) ks) (sym e) (fam_within p c.args.sig.now c.con-fam.result.0 x c.requires.stands c.fam.ensures.is).cons in
    let l = con_in p c.args.sig.now c.args.con c.con-fam.result.0 c.con-fam.result.1 x c.con-fam.ensures c.fam.ensures.is c.requires.con in
    let n = ap length e in
    let low : c.con-fam.result.1 < length c.as_slice.result.now = omega (arith, l, n) in
    all-at (AllCon (λ t. t < length p.trees)) c.as_slice.result.now c.con-fam.result.1 c.index-as_slice-at.result a (at-get c.as_slice.result.now c.con-fam.result.1 c.index-as_slice-at.result low c.index-as_slice-at.is)

pub under-requires-clause-env : goal.under-requires-clause-env
under-requires-clause-env c = all-grown c.args.pool.now c.con_type.new.pool c.args.params.now c.in_ok-ty.ensures.extends c.requires.params

pub returns-clause-is : goal.returns-clause-is
returns-clause-is c =
    let p = c.args.pool.now in
    let q = c.con_type.new.pool in
    let z = c.under.new.pool in
    let g = c.args.sig.now in
    let ids = c.args.params.now in
    let x = fam_of c.fam.result.now.decl in
    let e : c.as_slice.result.now ≡ x.cons = c.as_slice.ensures ∙ sym (ap (λ (d : CoreDecl). (fam_of d).cons) c.in-Family.is) in
    let l = con_in p g c.args.con c.con-fam.result.0 c.con-fam.result.1 x c.con-fam.ensures c.fam.ensures.is c.requires.con in
    let n = ap length e in
    let low : c.con-fam.result.1 < length c.as_slice.result.now = omega (arith, l, n) in
    let at : slice_get x.cons c.con-fam.result.1 ≡ Some c.index-as_slice-at.result =
    subst (λ (ks : List (ConDecl ℕ)). slice_get ks c.con-fam.result.1 ≡ Some c.index-as_slice-at.result) e (at-get c.as_slice.result.now c.con-fam.result.1 c.index-as_slice-at.result low c.index-as_slice-at.is) in
    if_ok (λ r. StandsFor z r (under (map (tree q) ids) (tree q c.in_ok-ty.ty))) (λ r. (is : IsCon (signature_in p g) c.args.con) → StandsFor z r (under (map (tree p) ids) (con_type is.fam is.decl is.con))) c.under.result
    (λ r s is. record { within = s.within; is = s.is ∙ con_type-is p q g c.args.con c.con-fam.result.0 c.con-fam.result.1 x c.con-fam.ensures c.fam.ensures.is is c.index-as_slice-at.result c.in_ok-ty.ty ids at c.in_ok-ty.ensures.extends c.requires.params c.in_ok-ty.ensures.is.is })
    c.under.ensures.is
