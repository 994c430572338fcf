-- A slice by its first or its last item.
use Rattle.std.specs.Prelude.{◌≡◌, ◌+◌, ◌-◌, ◌<◌, ◌≤◌, ◌==◌, true, List, [], ◌∷◌, ◌++◌, length, get_or, take, drop, Option, Some, None, refl}
use Rattle.std.proofs.Common.{rules, arith, sym, ap, ap₂, ◌∙◌}
use Rattle.std.proofs.Math.Seq.{take-length}
use Rattle.std.proofs.lemmas.Option.{slice_get_read}
use Rattle.el_base.proofs.Lists.{take_next}

pub unrolled : {X : Type 0} (xs : List X) (x : X) → 1 ≤ length xs → x ≡ get_or xs 0 x → xs ≡ x ∷ take (length xs - 1) (drop 1 xs)
unrolled [] x l e = absurd (omega (arith, l))
unrolled (y ∷ ys) x l e =
    let n : length (y ∷ ys) - 1 ≡ length ys = omega arith in
    ap₂ (λ z zs. z ∷ zs) (sym e) (sym (ap (λ k. take k ys) n ∙ take-length ys))

pub unrolled_back : {X : Type 0} (xs : List X) (x : X) → 1 ≤ length xs → x ≡ get_or xs (length xs - 1) x → xs ≡ take (length xs - 1) xs ++ x ∷ []
unrolled_back xs x l e =
    let i = length xs - 1 in
    let n : i + 1 ≡ length xs = omega (arith, l) in
    sym (ap (λ k. take k xs) n ∙ take-length xs) ∙ take_next xs i x (slice_get_read xs (length xs) i x refl (omega (arith, l)) e)

pub empty_of : {X : Type 0} (xs : List X) → (length xs == 0) ≡ true → xs ≡ []
empty_of [] e = refl
empty_of (x ∷ xs) e = search rules

pub none_within : {X : Type 0} (xs : List X) → length xs < 1 → xs ≡ []
none_within [] l = refl
none_within (x ∷ xs) l = absurd (omega (arith, l))

pub none_of : {X : Type 0} (o : Option X) → ((x : X) → o ≡ Some x → ⊥) → o ≡ None
none_of None h = refl
none_of (Some x) h = absurd (h x refl)
