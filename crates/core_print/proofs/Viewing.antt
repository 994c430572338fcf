-- What ids of a signature are called, and the names of globals as they are collected.
use Rattle.std.proofs.Common.{◌≡◌, ℕ, ◌+◌, ◌≤◌, List, [], ◌∷◌, ◌++◌, length, map, take, slice_get, refl, sym, ap, ap₂, ◌∙◌, arith, append_assoc, length-append}
use Rattle.std.specs.Prelude.{sum, Option, Some, None, option_and_then}
use Rattle.std.specs.Option.{option_map_or}
use Rattle.std.proofs.lemmas.List.{length-map}
use Rattle.std.proofs.lemmas.List.Sums.{sum_by-cons}
use Rattle.std.proofs.lemmas.Option.{slice_get_past}
use Rattle.el_base.proofs.Lists.{take_next}
use Rattle.core_rules.specs.Signature.{ConDecl, FamDecl, Signature, Decl, numbers, places, defs, fams, decl_name, def_decl, fam_decl, con_decl, con_place, con_counts, field_entry, field_place, field_counts, Entry}
use Rattle.core_rules.proofs.Signature.Places.{length-numbers}
use Rattle.core_terms.specs.declared.signature.DefState.{DefState}
use Rattle.core_terms.specs.declared.signature.DefState.TheVariants as S
use Rattle.core_terms.specs.declared.signature.DefEntry.{DefEntry}
use Rattle.core_terms.specs.Signature.{con_total, field_total, entry_decl, state_decl}
use Rattle.core_print.specs.Names.{World, name_text, family_names, families_names, unknown, def_text, fam_text, con_text, field_text}
use Rattle.std.specs.Prelude.{codes}

length_places : (b : ℕ) (ns : List ℕ) → length (places b ns) ≡ sum ns
length_places b [] = refl
length_places b (n ∷ ns) =
    let f : ℕ → ℕ × ℕ = λ i. (b, i) in
    length-append (map f (numbers 0 n)) (places (b + 1) ns) ∙ ap₂ (λ x y. x + y) (length-map (numbers 0 n) f ∙ length-numbers 0 n) (length_places (b + 1) ns) ∙ sym (sum_by-cons (λ i. i) n ns)

pub state_name : (x a : ℕ) (s : DefState) → decl_name (state_decl x a s) ≡ x
state_name x a S.Postulate = refl
state_name x a S.Open = refl
state_name x a (S.Closed qs T) = refl

pub entry_name : (e : DefEntry) → decl_name (entry_decl e) ≡ e.name
entry_name e = state_name e.name e.ty e.state

module _ (w : World) where
  pub no_def : (f : ℕ) → length (defs w.signature) ≤ f → def_text w f ≡ unknown
  no_def f l = ap (λ o. option_map_or (λ d. name_text w.names (decl_name d)) o unknown) (slice_get_past (defs w.signature) f l)

  pub some_def : (f : ℕ) (e : DefEntry) → def_decl w.signature f ≡ Some (entry_decl e) → def_text w f ≡ name_text w.names e.name
  some_def f e h = ap (λ o. option_map_or (λ d. name_text w.names (decl_name d)) o unknown) h ∙ ap (name_text w.names) (entry_name e)

  pub no_fam : (d : ℕ) → length (fams w.signature) ≤ d → fam_text w d ≡ unknown
  no_fam d l = ap (λ o. option_map_or (λ (d : FamDecl ℕ). name_text w.names d.name) o unknown) (slice_get_past (fams w.signature) d l)

  pub some_fam : (d : ℕ) (a : FamDecl ℕ) → fam_decl w.signature d ≡ Some a → fam_text w d ≡ name_text w.names a.name
  some_fam d a h = ap (λ o. option_map_or (λ (d : FamDecl ℕ). name_text w.names d.name) o unknown) h

  by_con : Option (ConDecl ℕ) → List ℕ
  by_con o = option_map_or (λ (c : ConDecl ℕ). option_map_or (name_text w.names) c.name (codes "record")) o unknown

  pub con_is : (k : ℕ) (o : Option (ConDecl ℕ)) → con_decl w.signature k ≡ o → con_text w k ≡ option_map_or (λ (c : ConDecl ℕ). option_map_or (name_text w.names) c.name (codes "record")) o unknown
  con_is k o h = ap (λ o. option_map_or (λ (c : ConDecl ℕ). option_map_or (name_text w.names) c.name (codes "record")) o unknown) h

  pub field_is : (k : ℕ) (o : Option (Entry ℕ)) → field_entry w.signature k ≡ o → field_text w k ≡ option_map_or (λ (e : Entry ℕ). name_text w.names e.name) o unknown
  field_is k o h = ap (λ o. option_map_or (λ (e : Entry ℕ). name_text w.names e.name) o unknown) h

module _ (g : Signature ℕ) where
  pub no_con : (k : ℕ) → con_total g ≤ k → con_decl g k ≡ None
  no_con k h = ap (λ o. option_and_then (λ (p : ℕ × ℕ). option_and_then (λ (d : FamDecl ℕ). slice_get d.cons p.1) (fam_decl g p.0)) o) (slice_get_past (places 0 (con_counts g)) k (omega (arith, h, length_places 0 (con_counts g))))

  pub con_at : (k d i : ℕ) (o : Option (FamDecl ℕ)) → con_place g k ≡ Some (d, i) → fam_decl g d ≡ o → con_decl g k ≡ option_and_then (λ (d : FamDecl ℕ). slice_get d.cons i) o
  con_at k d i o h e = ap (λ o. option_and_then (λ (p : ℕ × ℕ). option_and_then (λ (d : FamDecl ℕ). slice_get d.cons p.1) (fam_decl g p.0)) o) h ∙ ap (option_and_then (λ (d : FamDecl ℕ). slice_get d.cons i)) e

  pub no_field : (k : ℕ) → field_total g ≤ k → field_entry g k ≡ None
  no_field k h = ap (λ o. option_and_then (λ (p : ℕ × ℕ). option_and_then (λ (d : FamDecl ℕ). slice_get d.fields p.1) (fam_decl g p.0)) o) (slice_get_past (places 0 (field_counts g)) k (omega (arith, h, length_places 0 (field_counts g))))

  pub field_at : (k d i : ℕ) (o : Option (FamDecl ℕ)) → field_place g k ≡ Some (d, i) → fam_decl g d ≡ o → field_entry g k ≡ option_and_then (λ (d : FamDecl ℕ). slice_get d.fields i) o
  field_at k d i o h e = ap (λ o. option_and_then (λ (p : ℕ × ℕ). option_and_then (λ (d : FamDecl ℕ). slice_get d.fields p.1) (fam_decl g p.0)) o) h ∙ ap (option_and_then (λ (d : FamDecl ℕ). slice_get d.fields i)) e

  pub past_fams : (d : ℕ) → length (fams g) ≤ d → fam_decl g d ≡ None
  past_fams d l = slice_get_past (fams g) d l

-- the names of one family more
pub families-push : (ds : List (FamDecl ℕ)) (d : FamDecl ℕ) → families_names (ds ++ d ∷ []) ≡ families_names ds ++ family_names d
families-push [] d = none (family_names d)
  where
    none : (xs : List ℕ) → xs ++ [] ≡ xs
    none [] = refl
    none (x ∷ xs) = ap (λ (ys : List ℕ). x ∷ ys) (none xs)
families-push (e ∷ ds) d = ap (λ (xs : List ℕ). family_names e ++ xs) (families-push ds d) ∙ sym (append_assoc (family_names e) (families_names ds) (family_names d))

pub families-next : (ds : List (FamDecl ℕ)) (i : ℕ) (d : FamDecl ℕ) → slice_get ds i ≡ Some d → families_names (take (i + 1) ds) ≡ families_names (take i ds) ++ family_names d
families-next ds i d e = ap families_names (take_next ds i d e) ∙ families-push (take i ds) d

pub defs-next : (ds : List (Decl ℕ)) (i : ℕ) (d : Decl ℕ) → slice_get ds i ≡ Some d → map decl_name (take (i + 1) ds) ≡ map decl_name (take i ds) ++ decl_name d ∷ []
defs-next ds i d e = ap (map decl_name) (take_next ds i d e) ∙ map_push (take i ds)
  where
    map_push : (xs : List (Decl ℕ)) → map decl_name (xs ++ d ∷ []) ≡ map decl_name xs ++ decl_name d ∷ []
    map_push [] = refl
    map_push (x ∷ xs) = ap (λ (ys : List ℕ). decl_name x ∷ ys) (map_push xs)
