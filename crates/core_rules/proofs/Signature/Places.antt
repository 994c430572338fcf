-- What an id names: the fields of a family have the places that the family gives them.
use Rattle.std.specs.Prelude.{◌≡◌, ℕ, ◌+◌, ◌<◌, List, [], ◌∷◌, ◌++◌, length, map, sum, take, get_or, slice_get, Some, option_map, refl, zero, suc}
use Rattle.std.proofs.Common.{ap, ◌∙◌, arith, zero-add, add-zero}
use Rattle.std.proofs.lemmas.Grind.{common_steps}
use Rattle.std.proofs.lemmas.Option.{slice_get-map}
use Rattle.std.proofs.lemmas.List.{length-map}
use Rattle.core_rules.specs.Term.{Term}
use Rattle.core_rules.specs.Signature.{Signature, Decl, FamDecl, Postulate, Family, Open, Function, defs, fam_decl, numbers, places, field_counts, field_place, fields_of}

pub length-numbers : (k n : ℕ) → length (numbers k n) ≡ n
length-numbers k zero = refl
length-numbers k (suc n) = ap suc (length-numbers (k + 1) n)

pub numbers_at : (k n i : ℕ) → i < n → slice_get (numbers k n) i ≡ Some (k + i)
numbers_at k zero i h = absurd (omega arith)
numbers_at k (suc n) zero h = rw add-zero refl
numbers_at k (suc n) (suc i) h = let p : k + suc i ≡ k + 1 + i = omega arith in rw p (numbers_at (k + 1) n i (omega arith))

get_append_left : {X : Type 0} (xs ys : List X) (i : ℕ) (x : X) → slice_get xs i ≡ Some x → slice_get (xs ++ ys) i ≡ Some x
get_append_left [] ys i x h = absurd cc
get_append_left (y ∷ xs) ys zero x h = h
get_append_left (y ∷ xs) ys (suc i) x h = get_append_left xs ys i x h

get_append_right : {X : Type 0} (xs ys : List X) (n i : ℕ) → length xs ≡ n → slice_get (xs ++ ys) (n + i) ≡ slice_get ys i
get_append_right [] ys n i h = let p : n + i ≡ i = omega arith in rw p refl
get_append_right (y ∷ xs) ys zero i h = absurd (omega arith)
get_append_right (y ∷ xs) ys (suc n) i h = let p : suc n + i ≡ suc (n + i) = omega arith in rw p (get_append_right xs ys n i (omega arith))

-- item n of the counts, and place i there
pub places_at : (b : ℕ) (ns : List ℕ) (n i : ℕ) → i < get_or ns n 0 → slice_get (places b ns) (sum (take n ns) + i) ≡ Some (b + n, i)
places_at b [] n i h = absurd (omega arith)
places_at b (m ∷ ns) zero i h =
    let p : sum (take 0 (m ∷ ns)) + i ≡ i = omega arith in
    rw (p, add-zero) (get_append_left (map (λ i. (b, i)) (numbers 0 m)) (places (b + 1) ns) i (b, i)
    (slice_get-map (λ i. (b, i)) (numbers 0 m) i ∙ ap (option_map (λ i. (b, i))) (numbers_at 0 m i h ∙ ap Some (zero-add i))))
places_at b (m ∷ ns) (suc n) i h =
    let p : sum (take (suc n) (m ∷ ns)) + i ≡ m + (sum (take n ns) + i) = grind (arith, common_steps) in
    let q : b + suc n ≡ b + 1 + n = omega arith in
    rw (p, q) (get_append_right (map (λ i. (b, i)) (numbers 0 m)) (places (b + 1) ns) m (sum (take n ns) + i) (length-map (numbers 0 m) (λ i. (b, i)) ∙ length-numbers 0 m) ∙ places_at (b + 1) ns n i h)

pub length-fields_of : (g : Signature Term) (n : ℕ) → length (fields_of g n) ≡ get_or (field_counts g) n 0
length-fields_of g n = length-numbers (sum (take n (field_counts g))) (get_or (field_counts g) n 0)

-- field number i of family n has the id that the family gives it
pub field-place : (g : Signature Term) (n i k : ℕ) → i < length (fields_of g n) → slice_get (fields_of g n) i ≡ Some k → field_place g k ≡ Some (n, i)
field-place g n i k h e =
    let b : i < get_or (field_counts g) n 0 = rw length-fields_of at h in
    let p : k ≡ sum (take n (field_counts g)) + i = cc (e, numbers_at (sum (take n (field_counts g))) (get_or (field_counts g) n 0) i b) in
    rw p (places_at 0 (field_counts g) n i b ∙ ap (λ m. Some (m, i)) (zero-add n))

-- a declaration stands at some place of the signature
pub record Stands (g : Signature Term) (d : Decl Term) : Type 0 where
  pub place : ℕ
  pub is : slice_get g place ≡ Some d

later : {g : Signature Term} (d e : Decl Term) → Stands g d → Stands (e ∷ g) d
later d e s = record { place = suc s.place; is = s.is }

pub def_stands : (g : Signature Term) (k : ℕ) (d : Decl Term) → slice_get (defs g) k ≡ Some d → Stands g d
def_stands [] k d e = absurd cc
def_stands (Postulate x a ∷ g) zero d e = record { place = 0; is = e }
def_stands (Postulate x a ∷ g) (suc k) d e = later d _ (def_stands g k d e)
def_stands (Family c ∷ g) k d e = later d _ (def_stands g k d e)
def_stands (Open x a ∷ g) zero d e = record { place = 0; is = e }
def_stands (Open x a ∷ g) (suc k) d e = later d _ (def_stands g k d e)
def_stands (Function x a qs T ∷ g) zero d e = record { place = 0; is = e }
def_stands (Function x a qs T ∷ g) (suc k) d e = later d _ (def_stands g k d e)

pub fam_stands : (g : Signature Term) (k : ℕ) (c : FamDecl Term) → fam_decl g k ≡ Some c → Stands g (Family c)
fam_stands [] k c e = absurd cc
fam_stands (Postulate x a ∷ g) k c e = later _ _ (fam_stands g k c e)
fam_stands (Family b ∷ g) zero c e = record { place = 0; is = cc e }
fam_stands (Family b ∷ g) (suc k) c e = later _ _ (fam_stands g k c e)
fam_stands (Open x a ∷ g) k c e = later _ _ (fam_stands g k c e)
fam_stands (Function x a qs T ∷ g) k c e = later _ _ (fam_stands g k c e)
