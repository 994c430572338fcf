use Rattle.std.proofs.Common.{◌≡◌, ◌<◌, ◌++◌, ℕ, List, length, length-take, map, take, arith, ap, sym, subst, ◌∙◌}
use Rattle.std.specs.Prelude.{slice_get, Some, reverse}
use Rattle.std.specs.List.{AllByRecursion}
use Rattle.el_base.proofs.Lists.{map-reverse}
use Rattle.el_base.proofs.Throughout.{all-at, all-reverse}
use Rattle.core_rules.specs.Term.{Term, Proj}
use Rattle.core_rules.specs.Signature.{Entry, fields_of}
use Rattle.core_rules.specs.Mapped.{entry_map}
use Rattle.core_rules.specs.Substitution.{under}
use Rattle.core_rules.specs.Typing.{IsField, field_env}
use Rattle.term_pool.specs.Pool.{StandsFor, tree}
use Rattle.term_pool.specs.Growth.{Extends-length, Extends-tree}
use Rattle.core_terms.proofs.Declared.{at-get}
use Rattle.declared_types.proofs.Grown.{fam_within}
use Rattle.core_terms.specs.Signature.{fam_of, signature_in}
use Rattle.core_terms.specs.declared.signature.CoreDecl.{CoreDecl}
use Rattle.declared_types.proofs.Named.{field_ids, field_env-is, if_ok}
use Rattle.declared_types.proofs.Fields.{field_named, field_fam_below, field_in, field_is}
use Rattle.declared_types.proofs.records.type_of_field.Goals as goal

pub fam-entry-requires : goal.fam-entry-requires
fam-entry-requires c =
    let p = c.args.pool.now in
    let g = c.args.sig.now in
    field_fam_below p g c.args.field c.field-fam.result.0 c.field-fam.result.1 c.field-fam.ensures (field_named p g c.args.field c.requires.field)

pub bounds-as_slice-at : goal.bounds-as_slice-at
bounds-as_slice-at c =
    let p = c.args.pool.now in
    let g = c.args.sig.now in
    let x = fam_of c.fam-entry.result.now.decl in
    let l = field_in p g c.args.field c.field-fam.result.0 c.field-fam.result.1 x c.field-fam.ensures c.fam-entry.ensures.is (field_named p g c.args.field c.requires.field) in
    let f : c.in-Family.fields ≡ x.fields = sym (ap (λ (d : CoreDecl). (fam_of d).fields) c.in-Family.is) in
    let e : c.as_slice.result.now ≡ x.fields = cc (c.as_slice.ensures, c.fields.view_is, f) in
    let n = ap length e in
    omega (arith, l, n)

pub slice_bounds-with_fields-end : goal.slice_bounds-with_fields-end
slice_bounds-with_fields-end c =
    let p = c.args.pool.now in
    let g = c.args.sig.now in
    let x = fam_of c.fam-entry.result.now.decl in
    let l = field_in p g c.args.field c.field-fam.result.0 c.field-fam.result.1 x c.field-fam.ensures c.fam-entry.ensures.is (field_named p g c.args.field c.requires.field) in
    let n = field_ids p g c.field-fam.result.0 x c.fam-entry.ensures.is in
    let e = ap length (c.as_slice-2.ensures ∙ c.fam-entry.ensures.fields) in
    let t = length-take c.field-fam.result.1 c.as_slice-2.result.now in
    omega (arith, l, n, e, t)

pub under-requires-clause-t : goal.under-requires-clause-t
under-requires-clause-t c =
    let p = c.args.pool.now in
    let g = c.args.sig.now in
    let x = fam_of c.fam-entry.result.now.decl in
    let i = c.field-fam.result.1 in
    let l = field_in p g c.args.field c.field-fam.result.0 i x c.field-fam.ensures c.fam-entry.ensures.is (field_named p g c.args.field c.requires.field) in
    let f : c.in-Family.fields ≡ x.fields = sym (ap (λ (d : CoreDecl). (fam_of d).fields) c.in-Family.is) in
    let e : c.as_slice.result.now ≡ x.fields = cc (c.as_slice.ensures, c.fields.view_is, f) in
    let n = ap length e in
    let low : i < length c.as_slice.result.now = omega (arith, l, n) in
    let at : slice_get x.fields i ≡ Some c.index-as_slice-at.result = subst (λ (es : List (Entry ℕ)). slice_get es i ≡ Some c.index-as_slice-at.result) e (at-get c.as_slice.result.now i c.index-as_slice-at.result low c.index-as_slice-at.is) in
    let b = all-at (λ (w : Entry ℕ). w.ty < length p.trees) x.fields i c.index-as_slice-at.result (fam_within p g c.field-fam.result.0 x c.requires.stands c.fam-entry.ensures.is).fields at in
    let v : c.declared.inside.ty ≡ c.index-as_slice-at.result.ty = ap (λ (w : Entry ℕ). w.ty) c.declared.view_is in
    let m = Extends-length c.in_ok-env.ensures.extends in
    omega (arith, b, v, m)

pub under-requires-clause-env : goal.under-requires-clause-env
under-requires-clause-env c =
    let n = length c.with_fields.new.pool.trees in
    subst (λ (ts : List ℕ). AllByRecursion (λ j. j < n) ts) (sym (c.as_slice-3.ensures.value ∙ c.reverse.ensures.items)) (all-reverse (λ j. j < n) c.in_ok-env.env.items c.in_ok-env.ensures.below)

pub returns-clause-is : goal.returns-clause-is
returns-clause-is c =
    let p = c.args.pool.now in
    let g = c.args.sig.now in
    let z = c.with_fields.new.pool in
    let w = c.under.new.pool in
    let k = c.args.field in
    let a = c.field-fam.result.0 in
    let i = c.field-fam.result.1 in
    let t = tree p c.args.of in
    let ps : List Term = map (tree p) c.args.params.items in
    let x = fam_of c.fam-entry.result.now.decl in
    let l = field_in p g k a i x c.field-fam.ensures c.fam-entry.ensures.is (field_named p g k c.requires.field) in
    let f : c.in-Family.fields ≡ x.fields = sym (ap (λ (d : CoreDecl). (fam_of d).fields) c.in-Family.is) in
    let e : c.as_slice.result.now ≡ x.fields = cc (c.as_slice.ensures, c.fields.view_is, f) in
    let n = ap length e in
    let low : i < length c.as_slice.result.now = omega (arith, l, n) in
    let at : slice_get x.fields i ≡ Some c.index-as_slice-at.result = subst (λ (es : List (Entry ℕ)). slice_get es i ≡ Some c.index-as_slice-at.result) e (at-get c.as_slice.result.now i c.index-as_slice-at.result low c.index-as_slice-at.is) in
    let b = all-at (λ (w : Entry ℕ). w.ty < length p.trees) x.fields i c.index-as_slice-at.result (fam_within p g a x c.requires.stands c.fam-entry.ensures.is).fields at in
    let v : c.declared.inside.ty ≡ c.index-as_slice-at.result.ty = ap (λ (w : Entry ℕ). w.ty) c.declared.view_is in
    let ty : tree z c.declared.inside.ty ≡ tree p c.index-as_slice-at.result.ty = ap (tree z) v ∙ Extends-tree c.index-as_slice-at.result.ty c.in_ok-env.ensures.extends b in
    let fs = take i c.as_slice-2.result.now in
    let s : fs ≡ take i (fields_of g a) = ap (take i) (c.as_slice-2.ensures ∙ c.fam-entry.ensures.fields) in
    let env : map (tree z) c.as_slice-3.result.now ≡ reverse (ps ++ map (λ j. Proj j t) fs) =
    ap (map (tree z)) (c.as_slice-3.ensures.value ∙ c.reverse.ensures.items) ∙ (map-reverse (tree z) c.in_ok-env.env.items ∙ ap reverse c.in_ok-env.ensures.is) in
    if_ok (λ r. StandsFor w r (under (map (tree z) c.as_slice-3.result.now) (tree z c.declared.inside.ty))) (λ r. (is : IsField (signature_in p g) k) → StandsFor w r (under (field_env (signature_in p g) k is ps t) is.entry.ty)) c.under.result
    (λ r h is.
    let u : is.entry ≡ entry_map (tree p) c.index-as_slice-at.result = field_is p g k a i x c.field-fam.ensures c.fam-entry.ensures.is is c.index-as_slice-at.result at in
    let y : tree z c.declared.inside.ty ≡ is.entry.ty = ty ∙ sym (ap (λ (d : Entry Term). d.ty) u) in
    record { within = h.within; is = h.is ∙ (ap (λ (us : List Term). under us (tree z c.declared.inside.ty)) (env ∙ field_env-is p g k a i x c.field-fam.ensures c.fam-entry.ensures.is is ps t fs s) ∙ ap (under (field_env (signature_in p g) k is ps t)) y) })
    c.under.ensures.is
