-- What the id of a field names, over a signature of ids and over that of their trees.
use Rattle.std.proofs.Common.{◌≡◌, ◌<◌, ℕ, List, length, refl, sym, ap, ◌∙◌, subst, arith}
use Rattle.std.specs.Prelude.{sum, slice_get, Option, Some, None, option_map}
use Rattle.std.proofs.lemmas.List.{length-map}
use Rattle.std.proofs.lemmas.Option.{slice_get-map, slice_get_within}
use Rattle.core_rules.specs.Term.{Term}
use Rattle.core_rules.specs.Signature.{Entry, FamDecl, Signature, fams, fam_decl, field_place}
use Rattle.core_rules.specs.Mapped.{entry_map, fam_map}
use Rattle.core_rules.specs.Typing.{IsField}
use Rattle.core_rules.proofs.Heads.OneAnswer.{one_some}
use Rattle.core_rules.proofs.Heads.Mapped.{fam_decl-map, field_place-map, field_counts-map}
use Rattle.core_rules.proofs.Scope.Named.{is_field_at}
use Rattle.term_pool.specs.Pool.{Pool, tree}
use Rattle.core_terms.specs.Signature.{signature_in, field_total}

module _ (p : Pool) (g : Signature ℕ) where
  fam_got : (d : ℕ) (o : Option (FamDecl ℕ)) → fam_decl g d ≡ o → (decl : FamDecl Term) → option_map (fam_map (tree p)) o ≡ Some decl → d < length (fams g)
  fam_got d None e decl h = absurd cc
  fam_got d (Some x) e decl h = slice_get_within (fams g) d x e

  pub fam_below : (d : ℕ) (decl : FamDecl Term) → fam_decl (signature_in p g) d ≡ Some decl → d < length (fams g)
  fam_below d decl is = fam_got d (fam_decl g d) refl decl (sym (fam_decl-map (tree p) g d) ∙ is)

  pub decl_is : (d : ℕ) (x : FamDecl ℕ) (decl : FamDecl Term) → fam_decl g d ≡ Some x → fam_decl (signature_in p g) d ≡ Some decl → decl ≡ fam_map (tree p) x
  decl_is d x decl h is = one_some (sym is ∙ (fam_decl-map (tree p) g d ∙ ap (option_map (fam_map (tree p))) h))

  pub field_named : (k : ℕ) → k < field_total g → IsField (signature_in p g) k
  field_named k l = is_field_at (signature_in p g) k (subst (λ (ns : List ℕ). k < sum ns) (sym (field_counts-map (tree p) g)) l)

  pub field_fam_below : (k a b : ℕ) → field_place g k ≡ Some (a, b) → IsField (signature_in p g) k → a < length (fams g)
  field_fam_below k a b place is =
      let pair : ◌≡◌ {A = ℕ × ℕ} (is.fam, is.at) (a, b) = one_some (sym is.place ∙ (field_place-map (tree p) g k ∙ place)) in
      let same : is.fam ≡ a = ap (λ q. q.0) pair in
      fam_below a is.decl (subst (λ d. fam_decl (signature_in p g) d ≡ Some is.decl) same is.is_decl)

  pub field_place_fam : (k a b : ℕ) → field_place g k ≡ Some (a, b) → (is : IsField (signature_in p g) k) → is.fam ≡ a
  field_place_fam k a b place is =
      let pair : ◌≡◌ {A = ℕ × ℕ} (is.fam, is.at) (a, b) = one_some (sym is.place ∙ (field_place-map (tree p) g k ∙ place)) in
      ap (λ q. q.0) pair

  module _ (k a b : ℕ) (x : FamDecl ℕ) (place : field_place g k ≡ Some (a, b)) (h : fam_decl g a ≡ Some x) (is : IsField (signature_in p g) k) where
    field_pair : ◌≡◌ {A = ℕ × ℕ} (is.fam, is.at) (a, b)
    field_pair = one_some (sym is.place ∙ (field_place-map (tree p) g k ∙ place))

    pub field_fam : is.fam ≡ a
    field_fam = ap (λ q. q.0) field_pair

    pub field_at : is.at ≡ b
    field_at = ap (λ q. q.1) field_pair

    pub field_family : is.decl ≡ fam_map (tree p) x
    field_family = decl_is a x is.decl h (subst (λ d. fam_decl (signature_in p g) d ≡ Some is.decl) field_fam is.is_decl)

    field_here : slice_get (fam_map (tree p) x).fields b ≡ Some is.entry
    field_here = subst (λ i. slice_get (fam_map (tree p) x).fields i ≡ Some is.entry) field_at (subst (λ (d : FamDecl Term). slice_get d.fields is.at ≡ Some is.entry) field_family is.is_entry)

    pub field_in : b < length x.fields
    field_in = let l = slice_get_within (fam_map (tree p) x).fields b is.entry field_here in omega (arith, l, length-map x.fields (entry_map (tree p)))

    pub field_is : (e : Entry ℕ) → slice_get x.fields b ≡ Some e → is.entry ≡ entry_map (tree p) e
    field_is e h = one_some (sym field_here ∙ (slice_get-map (entry_map (tree p)) x.fields b ∙ ap (option_map (entry_map (tree p))) h))
