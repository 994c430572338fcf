-- A place of a field has one id.
use Rattle.std.specs.Prelude.{◌≡◌, ℕ, ◌⊎◌, ◌+◌, ◌-◌, ◌≤◌, List, [], ◌∷◌, ◌++◌, length, map, sum, take, slice_get, Option, Some, None, option_map, refl, zero, suc}
use Rattle.std.proofs.Common.{ap, sym, ◌∙◌, arith, inl, inr, ⊎_elim}
use Rattle.std.proofs.lemmas.Grind.{common_steps}
use Rattle.std.proofs.lemmas.List.{length-map}
use Rattle.std.proofs.lemmas.Option.{slice_get-map, slice_get_within}
use Rattle.core_rules.specs.Term.{Term}
use Rattle.core_rules.specs.Signature.{Signature, numbers, places, field_counts, field_place, fields_of}
use Rattle.core_rules.proofs.Signature.Places.{length-numbers, field-place}
use Rattle.core_rules.proofs.Heads.OneAnswer.{one_some}

record Later {X : Type 0} (n : ℕ) (ys : List X) (k : ℕ) (q : X) : Type 0 where
  at : ℕ
  is : k ≡ n + at
  stands : slice_get ys at ≡ Some q

in_part : {X : Type 0} (xs ys : List X) (k : ℕ) (q : X) → slice_get (xs ++ ys) k ≡ Some q → (slice_get xs k ≡ Some q) ⊎ Later (length xs) ys k q
in_part [] ys k q e = inr (record { at = k; is = omega arith; stands = e })
in_part (x ∷ xs) ys zero q e = inl e
in_part (x ∷ xs) ys (suc k) q e = ⊎_elim (λ h. inl h) (λ h. let p = h.is in inr (record { at = h.at; is = omega (arith, p); stands = h.stands })) (in_part xs ys k q e)

number_at : (a n k x : ℕ) → slice_get (numbers a n) k ≡ Some x → x ≡ a + k
number_at a zero k x e = absurd cc
number_at a (suc n) zero x e = let p : a ≡ x = one_some e in omega (arith, p)
number_at a (suc n) (suc k) x e = let p = number_at (a + 1) n k x e in omega (arith, p)

record IsPlace (b : ℕ) (ns : List ℕ) (k : ℕ) (q : ℕ × ℕ) : Type 0 where
  low : b ≤ q.0
  is : k ≡ sum (take (q.0 - b) ns) + q.1

here_place : (b n : ℕ) (ns : List ℕ) (k : ℕ) (q : ℕ × ℕ) → option_map (λ i. (b, i)) (slice_get (numbers 0 n) k) ≡ Some q → IsPlace b (n ∷ ns) k q
here_place b n ns k q = by_number (slice_get (numbers 0 n) k) (λ x e. number_at 0 n k x e)
  where
    by_number : (o : Option ℕ) → ((x : ℕ) → o ≡ Some x → x ≡ 0 + k) → option_map (λ i. (b, i)) o ≡ Some q → IsPlace b (n ∷ ns) k q
    by_number None h e = absurd cc
    by_number (Some x) h e =
        let c : ◌≡◌ {A = ℕ × ℕ} (b, x) q = one_some e in
        let l : b ≡ q.0 = ap (λ q. q.0) c in
        let r : x ≡ q.1 = ap (λ q. q.1) c in
        let y = h x refl in
        let z : q.0 - b ≡ 0 = omega (arith, l) in
        let s : sum (take 0 (n ∷ ns)) ≡ 0 = refl in
        record { low = omega (arith, l); is = (let w : k ≡ q.1 = omega (arith, y, r) in w) ∙ (let v : q.1 ≡ 0 + q.1 = omega arith in v) ∙ ap (λ m. sum (take m (n ∷ ns)) + q.1) (sym z) }

is_place : (b : ℕ) (ns : List ℕ) (k : ℕ) (q : ℕ × ℕ) → slice_get (places b ns) k ≡ Some q → IsPlace b ns k q
is_place b [] k q e = absurd cc
is_place b (n ∷ ns) k q e = ⊎_elim first (second (λ j h. is_place (b + 1) ns j q h)) (in_part (map (λ i. (b, i)) (numbers 0 n)) (places (b + 1) ns) k q e)
  where
    first : slice_get (map (λ i. (b, i)) (numbers 0 n)) k ≡ Some q → IsPlace b (n ∷ ns) k q
    first h = here_place b n ns k q (sym (slice_get-map (λ i. (b, i)) (numbers 0 n) k) ∙ h)

    second : ((j : ℕ) → slice_get (places (b + 1) ns) j ≡ Some q → IsPlace (b + 1) ns j q) → Later (length {A = ℕ × ℕ} (map (λ i. (b, i)) (numbers 0 n))) (places (b + 1) ns) k q → IsPlace b (n ∷ ns) k q
    second before h =
        let y = before h.at h.stands in
        let l : length {A = ℕ × ℕ} (map (λ i. (b, i)) (numbers 0 n)) ≡ length (numbers 0 n) = length-map {B = ℕ × ℕ} (numbers 0 n) (λ i. (b, i)) in
        let m = length-numbers 0 n in
        let low = y.low in
        let p = h.is in
        let w = y.is in
        let z : q.0 - b ≡ suc (q.0 - (b + 1)) = omega (arith, low) in
        let s : sum (take (suc (q.0 - (b + 1))) (n ∷ ns)) ≡ n + sum (take (q.0 - (b + 1)) ns) = grind (arith, common_steps) in
        let v : sum (take (q.0 - b) (n ∷ ns)) ≡ n + sum (take (q.0 - (b + 1)) ns) = ap (λ j. sum (take j (n ∷ ns))) z ∙ s in
        record { low = omega (arith, low); is = omega (arith, p, l, m, w, v) }

pub one_field : (g : Signature Term) (d i f h : ℕ) → field_place g f ≡ Some (d, i) → slice_get (fields_of g d) i ≡ Some h → h ≡ f
one_field g d i f h e s =
    let a = is_place 0 (field_counts g) f (d, i) e in
    let b = is_place 0 (field_counts g) h (d, i) (field-place g d i h (slice_get_within (fields_of g d) i h s) s) in
    b.is ∙ sym a.is
