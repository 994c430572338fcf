-- The record whose constructor has all its fields, in the signature over ids and in that over trees.
use Rattle.std.specs.Prelude.{◌≡◌, ◌≢◌, ℕ, suc, ◌≤◌, Bool, true, false, ◌&&◌, eqb, cond, List, [], ◌∷◌, length, map, slice_get, Option, Some, None, option_map, option_and_then, refl}
use Rattle.std.proofs.Common.{arith, ap, sym, ◌∙◌}
use Rattle.std.proofs.lemmas.Grind.{common_steps}
use Rattle.std.proofs.lemmas.List.{length-map}
use Rattle.core_rules.specs.Term.{Term, Terms, Con}
use Rattle.core_rules.specs.Signature.{ConDecl, FamDecl, Signature, Telescope, con_place, con_decl, fam_decl}
use Rattle.core_rules.specs.Mapped.{con_map, fam_map, entry_map}
use Rattle.core_rules.specs.Elimination.{Elim, Arg, Field}
use Rattle.core_rules.specs.Bounded.{RecordValue, fitting, record_value, con_kind, kind}
use Rattle.core_rules.proofs.Heads.Mapped.{con_place-map, con_decl-map, fam_decl-map}
use Rattle.term_pool.specs.Pool.{Pool, tree}
use Rattle.core_terms.specs.Signature.{con_total, signature_in}
use Rattle.weak_head.specs.Elims.{AreArgs, args_of}
use Rattle.weak_head.proofs.Lookups.{no_con}
use Rattle.conversion.specs.Form.{first_takes, has_eta_with, value_of}

-- ---- the value that a constructor is

pub test_same : (m n : ℕ) → m ≡ n → eqb m n ≡ true
test_same m n e = grind (arith, common_steps)

test_other : (m n : ℕ) → m ≢ n → eqb m n ≡ false
test_other m n e = grind (arith, common_steps)

test_suc : (m n : ℕ) → eqb m n ≡ eqb (suc m) (suc n)
test_suc m n = grind (arith, common_steps)

fits : (c : Telescope Term) (es : List Elim) → AreArgs es → fitting c es ≡ cond (eqb (length c) (length es)) (Some (args_of es)) None
fits [] [] h = ap (λ b. cond b (Some (args_of [])) None) (sym (test_same 0 0 refl))
fits [] (e ∷ es) h = ap (λ b. cond b (Some (args_of (e ∷ es))) None) (sym (test_other 0 (suc (length es)) (omega arith)))
fits (x ∷ c) [] h = ap (λ b. cond b (Some (args_of [])) None) (sym (test_other (suc (length c)) 0 (omega arith)))
fits (x ∷ c) (Field k ∷ es) h = absurd h.0
fits (x ∷ c) (Arg b u ∷ es) h =
    ap (option_map (λ us. u ∷ us)) (fits c es h.1)
    ∙ elim (eqb (length c) (length es)) as (λ o. option_map (λ us. u ∷ us) (cond o (Some (args_of es)) None) ≡ cond o (Some (u ∷ args_of es)) None) [ true ↦ refl | false ↦ refl ]
    ∙ ap (λ o. cond o (Some (u ∷ args_of es)) None) (test_suc (length c) (length es))

no_fit : (c : Telescope Term) (es : List Elim) → (AreArgs es → ⊥) → fitting c es ≡ None
no_fit [] [] n = absurd (n tt)
no_fit [] (e ∷ es) n = refl
no_fit (x ∷ c) [] n = refl
no_fit (x ∷ c) (Field k ∷ es) n = refl
no_fit (x ∷ c) (Arg b u ∷ es) n = ap (option_map (λ us. u ∷ us)) (no_fit c es (λ h. n (tt, h)))

-- by the declarations of a constructor and its family, over trees
abbrev by_con : (p : ℕ × ℕ) → List Elim → FamDecl Term → ConDecl Term → Option RecordValue
by_con p es d c = cond (d.eta && eqb p.1 0) (option_map (λ us. record { fam = p.0; values = us }) (fitting c.args es)) None

abbrev by_fam : Option (ConDecl Term) → List Elim → (p : ℕ × ℕ) → FamDecl Term → Option RecordValue
by_fam o es p d = option_and_then (by_con p es d) o

module _ (p : Pool) (g : Signature ℕ) (es : List Elim) (a : AreArgs es) where
  value_by : (k : ℕ) (o : Option (ℕ × ℕ)) → con_place g k ≡ o → record_value (signature_in p g) k es ≡ option_and_then (λ r. option_and_then (by_fam (con_decl (signature_in p g) k) es r) (fam_decl (signature_in p g) r.0)) o
  value_by k o e = ap (option_and_then (λ r. option_and_then (by_fam (con_decl (signature_in p g) k) es r) (fam_decl (signature_in p g) r.0))) (con_place-map (tree p) g k ∙ e)

  pub value_past : (k : ℕ) → con_total g ≤ k → None ≡ record_value (signature_in p g) k es
  value_past k h = sym (value_by k None (no_con g k h))

  not_first : (i j : ℕ) (o : Option (FamDecl Term)) (c : Option (ConDecl Term)) → j ≢ 0 → option_and_then (by_fam c es (i, j)) o ≡ None
  not_first i j None c n = refl
  not_first i j (Some d) None n = refl
  not_first i j (Some d) (Some c) n =
      let e : eqb j 0 ≡ false = grind (arith, common_steps) in
      let x : Option RecordValue = option_map (λ us. record { fam = i; values = us }) (fitting c.args es) in
      ap (λ b. cond (d.eta && b) x None) e ∙ elim d.eta as (λ b. cond (b && false) x None ≡ None) [ true ↦ refl | false ↦ refl ]

  pub value_later : (k i j : ℕ) → con_place g k ≡ Some (i, j) → j ≢ 0 → None ≡ record_value (signature_in p g) k es
  value_later k i j e n = sym (value_by k (Some (i, j)) e ∙ not_first i j (fam_decl (signature_in p g) i) (con_decl (signature_in p g) k) n)

  pub value_stray : (k i j : ℕ) → con_place g k ≡ Some (i, j) → fam_decl g i ≡ None → None ≡ record_value (signature_in p g) k es
  value_stray k i j e h = sym (value_by k (Some (i, j)) e ∙ ap (option_and_then (by_fam (con_decl (signature_in p g) k) es (i, j))) (fam_decl-map (tree p) g i ∙ ap (option_map (fam_map (tree p))) h))

  decl_first : (k i : ℕ) (d : FamDecl ℕ) → con_place g k ≡ Some (i, 0) → fam_decl g i ≡ Some d → con_decl g k ≡ slice_get d.cons 0
  decl_first k i d e h = ap (option_and_then (λ r. option_and_then (λ d. slice_get d.cons r.1) (fam_decl g r.0))) e ∙ ap (option_and_then (λ d. slice_get d.cons 0)) h

  by_cons : (i : ℕ) (d : FamDecl Term) (e : Bool) (cs : List (ConDecl ℕ)) → d.eta ≡ e → by_fam (option_map (con_map (tree p)) (slice_get cs 0)) es (i, 0) d ≡ cond (e && first_takes cs (length es)) (Some (value_of es i)) None
  by_cons i d e [] h = elim e as (λ b. ◌≡◌ {A = Option RecordValue} None (cond (b && false) (Some (value_of es i)) None)) [ true ↦ refl | false ↦ refl ]
  by_cons i d e (c ∷ cs) h =
      let x : ℕ = length c.args in
      let args = map (entry_map (tree p)) c.args in
      ap (λ b. cond (b && true) (option_map (λ us. record { fam = i; values = us }) (fitting args es)) None) h
      ∙ ap (λ o. cond (e && true) (option_map (λ us. record { fam = i; values = us }) o) None) (fits args es a ∙ ap (λ n. cond (eqb n (length es)) (Some (args_of es)) None) (length-map c.args (entry_map (tree p))))
      ∙ by_tests e (eqb x (length es))
    where
      by_tests : (b o : Bool) → cond (b && true) (option_map (λ us. record { fam = i; values = us }) (cond o (Some (args_of es)) None)) None ≡ cond (b && o) (Some (value_of es i)) None
      by_tests true true = refl
      by_tests true false = refl
      by_tests false true = refl
      by_tests false false = refl

  pub value_first : (k i n : ℕ) (d : FamDecl ℕ) (b : Bool) → con_place g k ≡ Some (i, 0) → fam_decl g i ≡ Some d → length es ≡ n → b ≡ has_eta_with d n → cond b (Some (value_of es i)) None ≡ record_value (signature_in p g) k es
  value_first k i n d b e h l t =
      let x = con_decl-map (tree p) g k ∙ ap (option_map (con_map (tree p))) (decl_first k i d e h) in
      let y = fam_decl-map (tree p) g i ∙ ap (option_map (fam_map (tree p))) h in
      ap (λ b. cond b (Some (value_of es i)) None) (t ∙ ap (has_eta_with d) (sym l))
      ∙ sym (value_by k (Some (i, 0)) e ∙ ap (option_and_then (by_fam (con_decl (signature_in p g) k) es (i, 0))) y ∙ ap (λ o. by_fam o es (i, 0) (fam_map (tree p) d)) x ∙ by_cons i (fam_map (tree p) d) d.eta d.cons refl)

-- ---- where eliminations are no arguments

module _ (es : List Elim) (n : AreArgs es → ⊥) where
  no_con_value : (p : ℕ × ℕ) (d : FamDecl Term) (o : Option (ConDecl Term)) → by_fam o es p d ≡ None
  no_con_value p d None = refl
  no_con_value p d (Some c) =
      ap (λ x. cond (d.eta && eqb p.1 0) (option_map (λ us. record { fam = p.0; values = us }) x) None) (no_fit c.args es n)
      ∙ elim (d.eta && eqb p.1 0) as (λ b. ◌≡◌ {A = Option RecordValue} (cond b None None) None) [ true ↦ refl | false ↦ refl ]

  no_fam_value : (p : ℕ × ℕ) (o : Option (ConDecl Term)) (d : Option (FamDecl Term)) → option_and_then (by_fam o es p) d ≡ None
  no_fam_value p o None = refl
  no_fam_value p o (Some d) = no_con_value p d o

  no_place_value : (g : Signature Term) (o : Option (ConDecl Term)) (p : Option (ℕ × ℕ)) → option_and_then (λ r. option_and_then (by_fam o es r) (fam_decl g r.0)) p ≡ None
  no_place_value g o None = refl
  no_place_value g o (Some p) = no_fam_value p o (fam_decl g p.0)

  pub no_value : (g : Signature Term) (k : ℕ) → record_value g k es ≡ None
  no_value g k = no_place_value g (con_decl g k) (con_place g k)

pub kind_as : (g : Signature Term) (h : Term) (k : ℕ) (ps : Terms) (es : List Elim) (o : Option RecordValue) → h ≡ Con k ps → o ≡ record_value g k es → con_kind o ≡ kind g h es
kind_as g h k ps es o e f = ap con_kind f ∙ ap (λ t. kind g t es) (sym e)
