-- Texts with ' after them.
use Rattle.std.proofs.Common.{◌≡◌, ℕ, zero, suc, ◌+◌, ◌<◌, ◌⊎◌, inl, inr, [], ◌∷◌, ◌++◌, length, get_or, refl, sym, ap, ◌∙◌, arith, append_assoc, length-append}
use Rattle.std.proofs.lemmas.List.{append_cancel_left, append_cancel_right}
use Rattle.core_print.specs.Apart.{Text}
use Rattle.core_print.specs.Labels.{primed}

append_none : (xs : Text) → xs ++ [] ≡ xs
append_none [] = refl
append_none (x ∷ xs) = ap (λ (ys : Text). x ∷ ys) (append_none xs)

pub primed-cons : (b : ℕ) (xs : Text) (n : ℕ) → primed (b ∷ xs) n ≡ b ∷ primed xs n
primed-cons b xs zero = refl
primed-cons b xs (suc n) = ap (λ (ys : Text). ys ++ (39 ∷ [])) (primed-cons b xs n)

-- primes stand after the text
pub primed-is : (x : Text) (n : ℕ) → primed x n ≡ x ++ primed [] n
primed-is x zero = sym (append_none x)
primed-is x (suc n) = ap (λ (ys : Text). ys ++ (39 ∷ [])) (primed-is x n) ∙ append_assoc x (primed [] n) (39 ∷ [])

pub primed-primed : (x : Text) (m n : ℕ) → primed (primed x m) n ≡ primed x (m + n)
primed-primed x m zero = let e : m ≡ m + 0 = omega arith in ap (primed x) e
primed-primed x m (suc n) =
    let e : suc (m + n) ≡ m + suc n = omega arith in
    ap (λ (ys : Text). ys ++ (39 ∷ [])) (primed-primed x m n) ∙ ap (primed x) e

pub length-primed : (x : Text) (n : ℕ) → length (primed x n) ≡ length x + n
length-primed x zero = omega arith
length-primed x (suc n) = omega (arith, length-append (primed x n) (39 ∷ []), length-primed x n)

-- one more ' at the front
primed-front : (n : ℕ) → primed [] (suc n) ≡ 39 ∷ primed [] n
primed-front zero = refl
primed-front (suc n) = ap (λ (ys : Text). ys ++ (39 ∷ [])) (primed-front n)

pub all_primes : (xs : Text) → ((k : ℕ) → k < length xs → get_or xs k 0 ≡ 39) → xs ≡ primed [] (length xs)
all_primes [] h = refl
all_primes (x ∷ xs) h =
    let e : x ≡ 39 = h 0 (omega arith) in
    let l : suc (length xs) ≡ length (x ∷ xs) = omega arith in
    let r : xs ≡ primed [] (length xs) = all_primes xs (λ k b. h (suc k) (omega (arith, b))) in
    ap (λ (b : ℕ). b ∷ xs) e ∙ (ap (λ (ys : Text). 39 ∷ ys) r ∙ (sym (primed-front (length xs)) ∙ ap (primed []) l))

pub primes_at : (n k : ℕ) → k < n → get_or (primed [] n) k 0 ≡ 39
primes_at zero k l = absurd (omega (arith, l))
primes_at (suc n) zero l = ap (λ (ys : Text). get_or ys 0 0) (primed-front n)
primes_at (suc n) (suc k) l = ap (λ (ys : Text). get_or ys (suc k) 0) (primed-front n) ∙ primes_at n k (omega (arith, l))

-- what is left after the front of a text with primes
pub rest_primed : (long short rest : Text) (n : ℕ) → long ≡ short ++ rest → long ≡ primed short n → rest ≡ primed [] n
rest_primed long short rest n e h = append_cancel_left short rest (primed [] n) (sym e ∙ (h ∙ primed-is short n))

pub rest_at : (long short rest : Text) (n : ℕ) → long ≡ short ++ rest → long ≡ primed short n → (k : ℕ) → k < length rest → get_or rest k 0 ≡ 39
rest_at long short rest n e h k l =
    let r : rest ≡ primed [] n = rest_primed long short rest n e h in
    let m : length rest ≡ n = omega (arith, ap length r, length-primed [] n) in
    ap (λ (ys : Text). get_or ys k 0) r ∙ primes_at n k (omega (arith, l, m))

pub from_rest : (long short rest : Text) → long ≡ short ++ rest → ((k : ℕ) → k < length rest → get_or rest k 0 ≡ 39) → long ≡ primed short (length rest)
from_rest long short rest e h = e ∙ (ap (λ (ys : Text). short ++ ys) (all_primes rest h) ∙ sym (primed-is short (length rest)))

pub not_longer : (long short : Text) → ((rest : Text) → long ≡ short ++ rest → ⊥) → (n : ℕ) → long ≡ primed short n → ⊥
not_longer long short h n e = h (primed [] n) (e ∙ primed-is short n)

-- of two texts that are the same with primes, one is the other with primes
pub both_primed : (x y : Text) (p k : ℕ) → primed x p ≡ primed y k → ((n : ℕ) × (x ≡ primed y n)) ⊎ ((n : ℕ) × (y ≡ primed x n))
both_primed x y zero k e = inl (k, e)
both_primed x y (suc p) zero e = inr (suc p, sym e)
both_primed x y (suc p) (suc k) e = both_primed x y p k (append_cancel_right (primed x p) (primed y k) (39 ∷ []) e)

pub neither_primed : (x y : Text) (p : ℕ) → ((n : ℕ) → x ≡ primed y n → ⊥) → ((n : ℕ) → y ≡ primed x n → ⊥) → (k : ℕ) → primed x p ≡ primed y k → ⊥
neither_primed x y p f g k e = elim (both_primed x y p k e) [ inl h ↦ f h.0 h.1 | inr h ↦ g h.0 h.1 ]

-- x is y with n primes
pub more_primes : (x y : Text) (p n k : ℕ) → x ≡ primed y n → k ≡ n + p → primed x p ≡ primed y k
more_primes x y p n k e f = ap (λ (z : Text). primed z p) e ∙ (primed-primed y n p ∙ ap (primed y) (sym f))

pub more_only : (x y : Text) (p n k : ℕ) → x ≡ primed y n → primed x p ≡ primed y k → k ≡ n + p
more_only x y p n k e h = omega (arith, length-primed x p, length-primed y k, length-primed y n, ap length e, ap length h)

-- y is x with n primes
pub fewer_primes : (x y : Text) (p n k : ℕ) → y ≡ primed x n → n + k ≡ p → primed x p ≡ primed y k
fewer_primes x y p n k e f = ap (primed x) (sym f) ∙ (sym (primed-primed x n k) ∙ ap (λ (z : Text). primed z k) (sym e))

pub fewer_only : (x y : Text) (p n k : ℕ) → y ≡ primed x n → primed x p ≡ primed y k → n + k ≡ p
fewer_only x y p n k e h = omega (arith, length-primed x p, length-primed y k, length-primed x n, ap length e, ap length h)

pub primed_once : (x : Text) (j k : ℕ) → primed x j ≡ primed x k → j ≡ k
primed_once x j k e = omega (arith, length-primed x j, length-primed x k, ap length e)
