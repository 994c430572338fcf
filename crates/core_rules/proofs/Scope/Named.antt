-- An id in scope names a constructor, or a field.
use Rattle.std.specs.Prelude.{◌≡◌, ℕ, ◌+◌, ◌-◌, ◌<◌, ◌≤◌, ◌⊎◌, List, [], ◌∷◌, ◌++◌, length, map, sum, get_or, slice_get, Option, Some, None, option_map, option_and_then, refl, zero, suc}
use Rattle.std.proofs.Common.{ap, sym, ◌∙◌, arith, zero-add, add-zero, ⊎_elim}
use Rattle.std.proofs.lemmas.Option.{slice_get-map}
use Rattle.std.proofs.lemmas.List.{length-map}
use Rattle.core_rules.specs.Term.{Term}
use Rattle.core_rules.specs.Signature.{Signature, FamDecl, ConDecl, fams, fam_decl, places, numbers, con_place, con_counts, field_counts}
use Rattle.core_rules.specs.Typing.{IsCon, IsField}
use Rattle.core_rules.specs.InScope.{con_params}
use Rattle.core_rules.proofs.Signature.Places.{length-numbers, numbers_at}
use Rattle.core_rules.proofs.Typing.Scoped.{length-places}

at_place : {A : Type 0} (xs : List A) (i : ℕ) → i < length xs → (x : A) × (slice_get xs i ≡ Some x)
at_place [] i l = absurd (omega (arith, l))
at_place (x ∷ xs) zero l = (x, refl)
at_place (x ∷ xs) (suc i) l = at_place xs i (omega (arith, l))

get_left : {X : Type 0} (xs ys : List X) (i : ℕ) → i < length xs → slice_get (xs ++ ys) i ≡ slice_get xs i
get_left [] ys i h = absurd (omega (arith, h))
get_left (y ∷ xs) ys zero h = refl
get_left (y ∷ xs) ys (suc i) h = get_left xs ys i (omega (arith, h))

get_right : {X : Type 0} (xs ys : List X) (i : ℕ) → length xs ≤ i → slice_get (xs ++ ys) i ≡ slice_get ys (i - length xs)
get_right [] ys i h = let p : i - 0 ≡ i = omega arith in rw p refl
get_right (y ∷ xs) ys zero h = absurd (omega (arith, h))
get_right (y ∷ xs) ys (suc i) h = let p : suc i - suc (length xs) ≡ i - length xs = omega arith in rw p (get_right xs ys i (omega (arith, h)))

-- a place is one of an item of the counts
record IsPlace (b : ℕ) (ns : List ℕ) (p : ℕ × ℕ) : Type 0 where
  at : ℕ
  is : p.0 ≡ b + at
  below : p.1 < get_or ns at 0

two : (i k : ℕ) → (i < k) ⊎ (k ≤ i)
two i k = grind arith

some_one : {X : Type 0} {x y : X} → Some x ≡ Some y → x ≡ y
some_one e = cc e

place_is : (b : ℕ) (ns : List ℕ) (k : ℕ) (p : ℕ × ℕ) → slice_get (places b ns) k ≡ Some p → IsPlace b ns p
place_is b [] k p e = absurd cc
place_is b (m ∷ ns) k p e =
    let here : List (ℕ × ℕ) = map (λ i. (b, i)) (numbers 0 m) in
    let n : length here ≡ m = length-map (numbers 0 m) (λ i. (b, i)) ∙ length-numbers 0 m in
    ⊎_elim
    (λ l.
    let q : slice_get here k ≡ Some (b, k) = slice_get-map (λ i. (b, i)) (numbers 0 m) k ∙ ap (option_map (λ i. (b, i))) (numbers_at 0 m k (omega (arith, l, n)) ∙ ap Some (zero-add k)) in
    let s : p ≡ (b, k) = some_one (sym e ∙ (get_left here (places (b + 1) ns) k l ∙ q)) in
    record { at = 0; is = ap (λ p. p.0) s ∙ sym (add-zero b); below = let r : p.1 ≡ k = ap (λ p. p.1) s in omega (arith, l, n, r) })
    (λ l.
    let h = place_is (b + 1) ns (k - length here) p (sym (get_right here (places (b + 1) ns) k l) ∙ e) in
    record { at = suc h.at; is = let r = h.is in omega (arith, r); below = h.below }) (two k (length here))

-- an item of the counts is that of an item
at_count : {X : Type 0} (f : X → ℕ) (ds : List X) (n i : ℕ) → i < get_or (map f ds) n 0 → (d : X) × (slice_get ds n ≡ Some d) × (i < f d)
at_count f [] n i h = absurd (omega arith)
at_count f (d ∷ ds) zero i h = (d, refl, h)
at_count f (d ∷ ds) (suc n) i h = at_count f ds n i h

at-start : (b : ℕ) → b ≡ 0 + b
at-start b = omega arith

module _ (g : Signature Term) where
  record ConAt (k : ℕ) (p : ℕ × ℕ) : Type 0 where
    decl : FamDecl Term
    con : ConDecl Term
    is_decl : fam_decl g p.0 ≡ Some decl
    is_con : slice_get decl.cons p.1 ≡ Some con

  con_at : (k : ℕ) (p : ℕ × ℕ) → con_place g k ≡ Some p → ConAt k p
  con_at k p e =
      let h = place_is 0 (con_counts g) k p e in
      let d = at_count (λ (d : FamDecl Term). length d.cons) (fams g) h.at p.1 h.below in
      let c = at_place d.0.cons p.1 d.2 in
      record { decl = d.0; con = c.0; is_decl = ap (λ n. slice_get (fams g) n) (h.is ∙ sym (at-start h.at)) ∙ d.1; is_con = c.1 }

  -- with as many parameters as asked for
  pub is_con_at : (k n : ℕ) → con_params g k ≡ Some n → (is : IsCon g k) × (length is.decl.params ≡ n)
  is_con_at k n e = by_place (con_place g k) refl e
    where
      by_place : (o : Option (ℕ × ℕ)) → con_place g k ≡ o → option_and_then (λ p. option_map (λ d. length d.params) (fam_decl g p.0)) o ≡ Some n → (is : IsCon g k) × (length is.decl.params ≡ n)
      by_place None f h = absurd cc
      by_place (Some p) f h =
          let c = con_at k p f in
          (record { fam = p.0; at = p.1; decl = c.decl; con = c.con; place = f; is_decl = c.is_decl; is_con = c.is_con }, some_one (sym (ap (option_map (λ d. length d.params)) c.is_decl) ∙ h))

  pub is_field_at : (f : ℕ) → f < sum (field_counts g) → IsField g f
  is_field_at f l =
      let n : f < length (places 0 (field_counts g)) = let m = length-places 0 (field_counts g) in omega (arith, l, m) in
      let p = at_place (places 0 (field_counts g)) f n in
      let h = place_is 0 (field_counts g) f p.0 p.1 in
      let d = at_count (λ (d : FamDecl Term). length d.fields) (fams g) h.at p.0.1 h.below in
      let x = at_place d.0.fields p.0.1 d.2 in
      record { fam = p.0.0; at = p.0.1; decl = d.0; entry = x.0; place = p.1; is_decl = ap (λ n. slice_get (fams g) n) (h.is ∙ sym (at-start h.at)) ∙ d.1; is_entry = x.1 }
