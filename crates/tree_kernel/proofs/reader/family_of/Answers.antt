use Rattle.std.proofs.Common.{◌≡◌, ◌<◌, ◌≤◌, ◌-◌, ◌++◌, ℕ, List, length, map, take, drop, arith, sym, ap, ap₂, subst, ◌∙◌}
use Rattle.std.specs.Prelude.{Some, None, option_map}
use Rattle.std.specs.List.{AllByRecursion}
use Rattle.std.proofs.lemmas.List.{map-append}
use Rattle.core_rules.specs.Term.{Term}
use Rattle.core_rules.specs.Signature.{Entry, fams}
use Rattle.core_rules.specs.Mapped.{entry_map, fam_map, telescope_map}
use Rattle.core_terms.specs.Signature.{fam_of, signature_in}
use Rattle.core_terms.specs.declared.signature.CoreDecl.{CoreDecl}
use Rattle.conversion.proofs.Slices.{none_of}
use Rattle.declared_types.proofs.Grown.{fam_in, fam_within}
use Rattle.kernel_rules.specs.TermReading.{arguments_for}
use Rattle.term_pool.specs.Pool.{tree}
use Rattle.weak_head.specs.Elims.{AllBelow, spine_in}
use Rattle.weak_head.specs.declared.elim.Elim as E
use Rattle.tree_kernel.proofs.Families.{no-family, family-unknown, family-none, family-some, params-fit, params-first, indices-last}
use Rattle.tree_kernel.proofs.Fitting.{ids-drop, outside-is}
use Rattle.tree_kernel.proofs.Parts.{each-take}
use Rattle.tree_kernel.proofs.reader.family_of.Goals as goal

pub returns-then-number-fams-clause-is : goal.returns-then-number-fams-clause-is
returns-then-number-fams-clause-is c =
    let p = c.args.pool.now in
    let g = c.args.signature.now in
    let l : length (fams g) ≤ c.in-Fam.fam = omega (arith, c.if-number-fams.true, c.fams.ensures, c.number.ensures) in
    family-unknown (signature_in p g) (tree p c.args.form.now.head) (spine_in (tree p) c.args.form.now.spine.items) c.in-Fam.fam c.in-Fam.ensures.is
    (no-family p g c.in-Fam.fam l)

pub returns-in_default-2-clause-is : goal.returns-in_default-2-clause-is
returns-in_default-2-clause-is c =
    let p = c.args.pool.now in
    let f = tree p in
    let g = c.args.signature.now in
    let d = fam_of c.fam-entry.result.now.decl in
    let D = fam_map f d in
    let k = fam_in p g c.in-Fam.fam d c.fam-entry.ensures.is in
    let xs = c.args.form.now.spine.items in
    let n = none_of c.in_ok-params_first.field-0 c.in_default-2.not-Some in
    let a1 : c.as_slice.result.now ≡ d.params = c.as_slice.ensures ∙ (c.params.view_is ∙ ap (λ (t : CoreDecl). (fam_of t).params) (sym c.in-Family.is)) in
    let a2 : c.as_slice-2.result.now ≡ d.indices = c.as_slice-2.ensures
    ∙ (c.indices.view_is ∙ ap (λ (t : CoreDecl). (fam_of t).indices) (sym c.in-Family.is)) in
    let es : c.as_slice-3.result.now ≡ d.params ++ d.indices = c.as_slice-3.ensures.value
    ∙ (c.in_ok-extend_from_slice.ensures.items ∙ ap₂ (λ (ys zs : List (Entry ℕ)). ys ++ zs) (c.in_ok-entries.ensures.items ∙ a1) a2) in
    let ts : telescope_map f c.as_slice-3.result.now ≡ D.params ++ D.indices = ap (telescope_map f) es ∙ map-append (entry_map f) d.params d.indices in
    let a : arguments_for (D.params ++ D.indices) (spine_in f xs) ≡ None =
    ap₂ (λ (ws : List (Entry Term)) (ys : List E.Elim). arguments_for ws (spine_in f ys)) (sym ts) (sym c.as_slice-4.ensures)
    ∙ (sym (c.in_ok-params_first.ensures.is f) ∙ ap (option_map (λ v. map f v.items)) n) in
    family-none (signature_in p g) (f c.args.form.now.head) (spine_in f xs) c.in-Fam.fam c.in-Fam.ensures.is D k a

pub slice_bounds-from_slice-count : goal.slice_bounds-from_slice-count
slice_bounds-from_slice-count c =
    let p = c.args.pool.now in
    let f = tree p in
    let g = c.args.signature.now in
    let d = fam_of c.fam-entry.result.now.decl in
    let D = fam_map f d in
    let k = fam_in p g c.in-Fam.fam d c.fam-entry.ensures.is in
    let xs = c.args.form.now.spine.items in
    let us = c.in-Some.params_first.items in
    let a1 : c.as_slice.result.now ≡ d.params = c.as_slice.ensures ∙ (c.params.view_is ∙ ap (λ (t : CoreDecl). (fam_of t).params) (sym c.in-Family.is)) in
    let a2 : c.as_slice-2.result.now ≡ d.indices = c.as_slice-2.ensures
    ∙ (c.indices.view_is ∙ ap (λ (t : CoreDecl). (fam_of t).indices) (sym c.in-Family.is)) in
    let es : c.as_slice-3.result.now ≡ d.params ++ d.indices = c.as_slice-3.ensures.value
    ∙ (c.in_ok-extend_from_slice.ensures.items ∙ ap₂ (λ (ys zs : List (Entry ℕ)). ys ++ zs) (c.in_ok-entries.ensures.items ∙ a1) a2) in
    let ts : telescope_map f c.as_slice-3.result.now ≡ D.params ++ D.indices = ap (telescope_map f) es ∙ map-append (entry_map f) d.params d.indices in
    let a : arguments_for (D.params ++ D.indices) (spine_in f xs) ≡ Some (map f us) =
    ap₂ (λ (ws : List (Entry Term)) (ys : List E.Elim). arguments_for ws (spine_in f ys)) (sym ts) (sym c.as_slice-4.ensures)
    ∙ (sym (c.in_ok-params_first.ensures.is f) ∙ ap (option_map (λ v. map f v.items)) c.in-Some.is) in
    let n : c.len-count.result ≡ length d.params = c.len-count.ensures
    ∙ ap length (c.params.view_is ∙ ap (λ (t : CoreDecl). (fam_of t).params) (sym c.in-Family.is)) in
    omega (arith, n, params-fit f d (spine_in f xs) us a, c.as_slice-all.ensures.len, ap length c.as_slice-all.ensures.value)

pub slice_bounds-from_slice-start : goal.slice_bounds-from_slice-start
slice_bounds-from_slice-start c =
    let p = c.args.pool.now in
    let f = tree p in
    let g = c.args.signature.now in
    let d = fam_of c.fam-entry.result.now.decl in
    let D = fam_map f d in
    let k = fam_in p g c.in-Fam.fam d c.fam-entry.ensures.is in
    let xs = c.args.form.now.spine.items in
    let us = c.in-Some.params_first.items in
    let a1 : c.as_slice.result.now ≡ d.params = c.as_slice.ensures ∙ (c.params.view_is ∙ ap (λ (t : CoreDecl). (fam_of t).params) (sym c.in-Family.is)) in
    let a2 : c.as_slice-2.result.now ≡ d.indices = c.as_slice-2.ensures
    ∙ (c.indices.view_is ∙ ap (λ (t : CoreDecl). (fam_of t).indices) (sym c.in-Family.is)) in
    let es : c.as_slice-3.result.now ≡ d.params ++ d.indices = c.as_slice-3.ensures.value
    ∙ (c.in_ok-extend_from_slice.ensures.items ∙ ap₂ (λ (ys zs : List (Entry ℕ)). ys ++ zs) (c.in_ok-entries.ensures.items ∙ a1) a2) in
    let ts : telescope_map f c.as_slice-3.result.now ≡ D.params ++ D.indices = ap (telescope_map f) es ∙ map-append (entry_map f) d.params d.indices in
    let a : arguments_for (D.params ++ D.indices) (spine_in f xs) ≡ Some (map f us) =
    ap₂ (λ (ws : List (Entry Term)) (ys : List E.Elim). arguments_for ws (spine_in f ys)) (sym ts) (sym c.as_slice-4.ensures)
    ∙ (sym (c.in_ok-params_first.ensures.is f) ∙ ap (option_map (λ v. map f v.items)) c.in-Some.is) in
    let n : c.len-count.result ≡ length d.params = c.len-count.ensures
    ∙ ap length (c.params.view_is ∙ ap (λ (t : CoreDecl). (fam_of t).params) (sym c.in-Family.is)) in
    let fits : c.len-count.result ≤ length c.as_slice-all.result.now =
    omega (arith, n, params-fit f d (spine_in f xs) us a, c.as_slice-all.ensures.len, ap length c.as_slice-all.ensures.value) in
    fits

pub returns-clause-stands : goal.returns-clause-stands
returns-clause-stands c =
    let p = c.args.pool.now in
    let m = length p.trees in
    let g = c.args.signature.now in
    let d = fam_of c.fam-entry.result.now.decl in
    let us = c.in-Some.params_first.items in
    let n = c.len-count.result in
    let below : AllByRecursion (λ t. t < m) us = (rw c.in-Some.is at c.in_ok-params_first.ensures.below) m
    (subst (λ (xs : List E.Elim). AllBelow m xs) (sym c.as_slice-4.ensures) c.requires.form.1) in
    let ks : c.in_ok-indices.indices.items ≡ drop n us = c.in_ok-indices.ensures.items
    ∙ (ap (λ (xs : List ℕ). take (length xs - n) (drop n xs)) c.as_slice-all.ensures.value ∙ outside-is n us) in
    record {
      is_family = c.fam-entry.ensures.decl;
      is_decl = c.fam-entry.ensures.is;
      cons = c.fam-entry.ensures.cons;
      fields = c.fam-entry.ensures.fields;
      decl = fam_within p g c.in-Fam.fam d c.requires.stands c.fam-entry.ensures.is;
      params = subst (AllByRecursion (λ t. t < m)) (sym c.truncate.ensures.items) (each-take (λ t. t < m) n us below);
      indices = subst (AllByRecursion (λ t. t < m)) (sym ks) (ids-drop m n us below);
    }

pub returns-clause-is : goal.returns-clause-is
returns-clause-is c =
    let p = c.args.pool.now in
    let f = tree p in
    let g = c.args.signature.now in
    let d = fam_of c.fam-entry.result.now.decl in
    let D = fam_map f d in
    let k = fam_in p g c.in-Fam.fam d c.fam-entry.ensures.is in
    let xs = c.args.form.now.spine.items in
    let us = c.in-Some.params_first.items in
    let a1 : c.as_slice.result.now ≡ d.params = c.as_slice.ensures ∙ (c.params.view_is ∙ ap (λ (t : CoreDecl). (fam_of t).params) (sym c.in-Family.is)) in
    let a2 : c.as_slice-2.result.now ≡ d.indices = c.as_slice-2.ensures
    ∙ (c.indices.view_is ∙ ap (λ (t : CoreDecl). (fam_of t).indices) (sym c.in-Family.is)) in
    let es : c.as_slice-3.result.now ≡ d.params ++ d.indices = c.as_slice-3.ensures.value
    ∙ (c.in_ok-extend_from_slice.ensures.items ∙ ap₂ (λ (ys zs : List (Entry ℕ)). ys ++ zs) (c.in_ok-entries.ensures.items ∙ a1) a2) in
    let ts : telescope_map f c.as_slice-3.result.now ≡ D.params ++ D.indices = ap (telescope_map f) es ∙ map-append (entry_map f) d.params d.indices in
    let a : arguments_for (D.params ++ D.indices) (spine_in f xs) ≡ Some (map f us) =
    ap₂ (λ (ws : List (Entry Term)) (ys : List E.Elim). arguments_for ws (spine_in f ys)) (sym ts) (sym c.as_slice-4.ensures)
    ∙ (sym (c.in_ok-params_first.ensures.is f) ∙ ap (option_map (λ v. map f v.items)) c.in-Some.is) in
    let n : c.len-count.result ≡ length d.params = c.len-count.ensures
    ∙ ap length (c.params.view_is ∙ ap (λ (t : CoreDecl). (fam_of t).params) (sym c.in-Family.is)) in
    let ps : c.truncate.new.self.items ≡ take (length d.params) us = c.truncate.ensures.items ∙ ap (λ (i : ℕ). take i us) n in
    let ks : c.in_ok-indices.indices.items ≡ drop (length d.params) us = c.in_ok-indices.ensures.items
    ∙ (ap (λ (xs : List ℕ). take (length xs - c.len-count.result) (drop c.len-count.result xs)) c.as_slice-all.ensures.value
    ∙ (outside-is c.len-count.result us ∙ ap (λ (i : ℕ). drop i us) n)) in
    family-some (signature_in p g) (f c.args.form.now.head) (spine_in f xs) c.in-Fam.fam c.in-Fam.ensures.is D k (map f us) (map f c.truncate.new.self.items)
    (map f c.in_ok-indices.indices.items) a (params-first f d us c.truncate.new.self.items ps) (indices-last f d us c.in_ok-indices.indices.items ks)
