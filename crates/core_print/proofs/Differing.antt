-- A name that is made different is none of those that are taken, and a large term is cut short.
use Rattle.std.proofs.Common.{◌≡◌, ℕ, zero, suc, ◌+◌, ◌<◌, ◌≤◌, Bool, true, false, ◌||◌, cond, ltb, List, [], ◌∷◌, ◌++◌, length, refl, ap, arith, inl, inr, length-append, lt-ltb, le-ltb}
use Rattle.std.specs.Prelude.{nat_lt, codes}
use Rattle.std.specs.Str.{bytes_eq}
use Rattle.std.proofs.lemmas.Slice.Eq.{bytes_eq-Decides}
use Rattle.std.proofs.lemmas.Bool.{cases_lt}
use Rattle.core_rules.specs.Term.{size}
use Rattle.core_rules.specs.Examples.{doubled}
use Rattle.core_rules.proofs.Derivations.{doubled_size}
use Rattle.core_print.specs.Apart.{Text, is_among, apart, different}
use Rattle.core_print.specs.Printed.{shown}
use Rattle.core_print.specs.Examples.{world}

-- how many of the texts have at least n bytes
long_one : ℕ → Text → ℕ
long_one n y = cond (ltb (length y) n) 0 1

abbrev long_ones : ℕ → List Text → ℕ
long_ones n [] = 0
long_ones n (y ∷ ys) = long_one n y + long_ones n ys

short_none : (n : ℕ) (y : Text) → length y < n → long_one n y ≡ 0
unfolding long_one
short_none n y l = ap (λ b. cond b 0 1) (lt-ltb (length y) n l)

long_some : (n : ℕ) (y : Text) → n ≤ length y → long_one n y ≡ 1
unfolding long_one
long_some n y l = ap (λ b. cond b 0 1) (le-ltb (length y) n l)

at_most : (n : ℕ) (y : Text) → long_one n y ≤ 1
at_most n y = elim (cases_lt (length y) n) [ inl l ↦ omega (arith, short_none n y l) | inr l ↦ omega (arith, long_some n y l) ]

fewer_one : (n : ℕ) (y : Text) → long_one (n + 1) y ≤ long_one n y
fewer_one n y =
    elim (cases_lt (length y) n) [
      | inl l ↦ let e : long_one (n + 1) y ≡ 0 = short_none (n + 1) y (omega (arith, l)) in omega (arith, e)
      | inr l ↦ omega (arith, long_some n y l, at_most (n + 1) y)
    ]

fewer : (n : ℕ) (ys : List Text) → long_ones (n + 1) ys ≤ long_ones n ys
fewer n [] = omega arith
fewer n (y ∷ ys) = omega (arith, fewer_one n y, fewer n ys)

all_long : (n : ℕ) (ys : List Text) → long_ones n ys ≤ length ys
all_long n [] = omega arith
all_long n (y ∷ ys) = omega (arith, at_most n y, all_long n ys)

-- where x is one of them, fewer are longer than it
one_fewer_at : (x y : Text) (ys : List Text) (b : Bool) → bytes_eq y x ≡ b → (b || is_among x ys) ≡ true
    → (is_among x ys ≡ true → long_ones (length x + 1) ys + 1 ≤ long_ones (length x) ys)
    → long_ones (length x + 1) (y ∷ ys) + 1 ≤ long_ones (length x) (y ∷ ys)
one_fewer_at x y ys true f e h =
    let same : length y ≡ length x = ap length ((bytes_eq-Decides y x).0 f) in
    omega (arith, short_none (length x + 1) y (omega (arith, same)), long_some (length x) y (omega (arith, same)), fewer (length x) ys)
one_fewer_at x y ys false f e h = omega (arith, h e, fewer_one (length x) y)

one_fewer : (x : Text) (ys : List Text) → is_among x ys ≡ true → long_ones (length x + 1) ys + 1 ≤ long_ones (length x) ys
one_fewer x [] e = absurd cc
one_fewer x (y ∷ ys) e = one_fewer_at x y ys (bytes_eq y x) refl e (one_fewer x ys)

-- where none is as long as x, x is none of them
none_long_at : (x y : Text) (ys : List Text) (b : Bool) → bytes_eq y x ≡ b → long_ones (length x) (y ∷ ys) ≤ 0 → is_among x ys ≡ false → (b || is_among x ys) ≡ false
none_long_at x y ys true f l e =
    let same : length y ≡ length x = ap length ((bytes_eq-Decides y x).0 f) in
    absurd (omega (arith, l, long_some (length x) y (omega (arith, same))))
none_long_at x y ys false f l e = e

none_long : (x : Text) (ys : List Text) → long_ones (length x) ys ≤ 0 → is_among x ys ≡ false
none_long x [] l = refl
none_long x (y ∷ ys) l = none_long_at x y ys (bytes_eq y x) refl l (none_long x ys (omega (arith, l)))

apart_at : (n : ℕ) (taken : List Text) (x : Text) → long_ones (length x) taken ≤ suc n → (b : Bool) → is_among x taken ≡ b
    → ((y : Text) → long_ones (length y) taken ≤ n → is_among (apart n taken y) taken ≡ false)
    → is_among (cond b (apart n taken (x ++ codes "'")) x) taken ≡ false
apart_at n taken x l true e h =
    let m : length (x ++ codes "'") ≡ length x + 1 = length-append x (codes "'") in
    let k : long_ones (length (x ++ codes "'")) taken ≤ n = omega (arith, ap (λ (i : ℕ). long_ones i taken) m, one_fewer x taken e, l) in
    h (x ++ codes "'") k
apart_at n taken x l false e h = e

apart_differs : (n : ℕ) (taken : List Text) (x : Text) → long_ones (length x) taken ≤ n → is_among (apart n taken x) taken ≡ false
apart_differs zero taken x l = none_long x taken l
apart_differs (suc n) taken x l = apart_at n taken x l (is_among x taken) refl (λ y k. apart_differs n taken y k)

pub different_is_not_among : (taken : List Text) (x : Text) → is_among (different taken x) taken ≡ false
different_is_not_among taken x = apart_differs (length taken) taken x (all_long (length x) taken)

pub free_name_stays : (taken : List Text) (x : Text) → is_among x taken ≡ false → different taken x ≡ x
free_name_stays [] x e = refl
free_name_stays (y ∷ ys) x e = ap (λ b. cond b (apart (length ys) (y ∷ ys) (x ++ codes "'")) x) e

pub cut_short : cond (nat_lt 10000 (size (doubled 60))) (codes "...") (shown world (codes "x" ∷ []) (doubled 60)) ≡ codes "..."
cut_short = ap (λ b. cond b (codes "...") (shown world (codes "x" ∷ []) (doubled 60))) (lt-ltb 10000 (size (doubled 60)) (omega (arith, doubled_size)))
