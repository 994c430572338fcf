-- What the ids of a signature name, where a function is applied to each of its terms.
use Rattle.std.specs.Prelude.{◌≡◌, ℕ, true, false, eqb, cond, List, [], ◌∷◌, length, map, slice_get, refl, Option, Some, None, option_map, option_and_then}
use Rattle.std.proofs.Common.{ap, ap₂, ◌∙◌}
use Rattle.std.proofs.lemmas.List.{length-map}
use Rattle.std.proofs.lemmas.Option.{slice_get-map}
use Rattle.core_rules.specs.Signature.{Branch, Tree, CoBranches, ConBranches, NoField, OnField, NoCon, Refuted, Goes, co_branch, con_branch, FamDecl, Decl, Postulate, Family, Open, Function, Signature, defs, fams, decl_tree, def_decl, tree_of, fam_decl, con_counts, field_counts, con_place, field_place, con_decl, fields_of, places, ids_of}
use Rattle.core_rules.specs.Mapped.{entry_map, tree_map, co_branches_map, con_branches_map, branch_map, con_map, fam_map, decl_map, signature_map}

module _ {A B : Type 0} (f : A → B) where
  defs-map : (g : Signature A) → defs (signature_map f g) ≡ map (decl_map f) (defs g)
  defs-map [] = refl
  defs-map (Postulate x a ∷ g) = ap (λ l. Postulate x (f a) ∷ l) (defs-map g)
  defs-map (Family d ∷ g) = defs-map g
  defs-map (Open x a ∷ g) = ap (λ l. Open x (f a) ∷ l) (defs-map g)
  defs-map (Function x a qs T ∷ g) = ap (λ l. decl_map f (Function x a qs T) ∷ l) (defs-map g)

  fams-map : (g : Signature A) → fams (signature_map f g) ≡ map (fam_map f) (fams g)
  fams-map [] = refl
  fams-map (Postulate x a ∷ g) = fams-map g
  fams-map (Family d ∷ g) = ap (λ l. fam_map f d ∷ l) (fams-map g)
  fams-map (Open x a ∷ g) = fams-map g
  fams-map (Function x a qs T ∷ g) = fams-map g

  decl_tree-map : (o : Option (Decl A)) → option_and_then decl_tree (option_map (decl_map f) o) ≡ option_map (tree_map f) (option_and_then decl_tree o)
  decl_tree-map None = refl
  decl_tree-map (Some (Postulate x a)) = refl
  decl_tree-map (Some (Family d)) = refl
  decl_tree-map (Some (Open x a)) = refl
  decl_tree-map (Some (Function x a qs T)) = refl

  pub tree_of-map : (g : Signature A) (i : ℕ) → tree_of (signature_map f g) i ≡ option_map (tree_map f) (tree_of g i)
  tree_of-map g i =
      ap (λ ds. option_and_then decl_tree (slice_get ds i)) (defs-map g)
      ∙ (ap (option_and_then decl_tree) (slice_get-map (decl_map f) (defs g) i) ∙ decl_tree-map (def_decl g i))

  pub fam_decl-map : (g : Signature A) (d : ℕ) → fam_decl (signature_map f g) d ≡ option_map (fam_map f) (fam_decl g d)
  fam_decl-map g d = ap (λ ds. slice_get ds d) (fams-map g) ∙ slice_get-map (fam_map f) (fams g) d

  con_lengths : (ds : List (FamDecl A)) → map (λ d. length d.cons) (map (fam_map f) ds) ≡ map (λ d. length d.cons) ds
  con_lengths [] = refl
  con_lengths (d ∷ ds) = ap₂ (λ n ns. n ∷ ns) (length-map d.cons (con_map f)) (con_lengths ds)

  field_lengths : (ds : List (FamDecl A)) → map (λ d. length d.fields) (map (fam_map f) ds) ≡ map (λ d. length d.fields) ds
  field_lengths [] = refl
  field_lengths (d ∷ ds) = ap₂ (λ n ns. n ∷ ns) (length-map d.fields (entry_map f)) (field_lengths ds)

  pub con_counts-map : (g : Signature A) → con_counts (signature_map f g) ≡ con_counts g
  con_counts-map g = ap (map (λ d. length d.cons)) (fams-map g) ∙ con_lengths (fams g)

  pub field_counts-map : (g : Signature A) → field_counts (signature_map f g) ≡ field_counts g
  field_counts-map g = ap (map (λ d. length d.fields)) (fams-map g) ∙ field_lengths (fams g)

  pub con_place-map : (g : Signature A) (k : ℕ) → con_place (signature_map f g) k ≡ con_place g k
  con_place-map g k = ap (λ ns. slice_get (places 0 ns) k) (con_counts-map g)

  pub field_place-map : (g : Signature A) (k : ℕ) → field_place (signature_map f g) k ≡ field_place g k
  field_place-map g k = ap (λ ns. slice_get (places 0 ns) k) (field_counts-map g)

  pub fields_of-map : (g : Signature A) (d : ℕ) → fields_of (signature_map f g) d ≡ fields_of g d
  fields_of-map g d = ap (λ ns. ids_of ns d) (field_counts-map g)

  con_at : (at : ℕ) (o : Option (FamDecl A)) → option_and_then (λ d. slice_get d.cons at) (option_map (fam_map f) o) ≡ option_map (con_map f) (option_and_then (λ d. slice_get d.cons at) o)
  con_at at None = refl
  con_at at (Some d) = slice_get-map (con_map f) d.cons at

  con_of : (g : Signature A) (o : Option (ℕ × ℕ)) → option_and_then (λ p. option_and_then (λ d. slice_get d.cons p.1) (fam_decl (signature_map f g) p.0)) o ≡ option_map (con_map f) (option_and_then (λ p. option_and_then (λ d. slice_get d.cons p.1) (fam_decl g p.0)) o)
  con_of g None = refl
  con_of g (Some p) = ap (option_and_then (λ d. slice_get d.cons p.1)) (fam_decl-map g p.0) ∙ con_at p.1 (fam_decl g p.0)

  pub con_decl-map : (g : Signature A) (k : ℕ) → con_decl (signature_map f g) k ≡ option_map (con_map f) (con_decl g k)
  con_decl-map g k = ap (option_and_then (λ p. option_and_then (λ d. slice_get d.cons p.1) (fam_decl (signature_map f g) p.0))) (con_place-map g k) ∙ con_of g (con_place g k)

  pub co_branch-map : (bs : CoBranches A) (k : ℕ) → co_branch (co_branches_map f bs) k ≡ option_map (tree_map f) (co_branch bs k)
  co_branch-map NoField k = refl
  co_branch-map (OnField h T bs) k =
      elim (eqb h k) as (λ o. cond o (Some (tree_map f T)) (co_branch (co_branches_map f bs) k) ≡ option_map (tree_map f) (cond o (Some T) (co_branch bs k))) [ true ↦ refl | false ↦ co_branch-map bs k ]

  abbrev pub goes_map : Option (Branch A × Tree A) → Option (Branch B × Tree B)
  goes_map o = option_map (λ p. (branch_map f p.0, tree_map f p.1)) o

  pub con_branch-map : (bs : ConBranches A) (k : ℕ) → con_branch (con_branches_map f bs) k ≡ goes_map (con_branch bs k)
  con_branch-map NoCon k = refl
  con_branch-map (Refuted h bs) k =
      elim (eqb h k) as (λ o. cond o None (con_branch (con_branches_map f bs) k) ≡ goes_map (cond o None (con_branch bs k))) [ true ↦ refl | false ↦ con_branch-map bs k ]
  con_branch-map (Goes h b T bs) k =
      elim (eqb h k) as (λ o. cond o (Some (branch_map f b, tree_map f T)) (con_branch (con_branches_map f bs) k) ≡ goes_map (cond o (Some (b, T)) (con_branch bs k))) [ true ↦ refl | false ↦ con_branch-map bs k ]
