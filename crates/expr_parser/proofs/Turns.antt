-- The turns of a loop that counts up are those of a function that counts down.
use Rattle.std.proofs.Common.{◌≡◌, ℕ, zero, suc, ◌+◌, ◌-◌, ◌<◌, ◌≤◌, ap, arith}

-- a turn is left
pub one_more : {A : Type 0} (f : ℕ → A) (n i : ℕ) → i < n → f (n - i) ≡ f (suc (n - (i + 1)))
one_more f n i h = ap f (let e : n - i ≡ suc (n - (i + 1)) = omega arith in e)

-- none is left
pub no_more : {A : Type 0} (f : ℕ → A) (n i : ℕ) → n ≤ i → f (n - i) ≡ f zero
no_more f n i h = ap f (let e : n - i ≡ 0 = omega arith in e)

-- a number that is not 0 is the successor of the one before
pub deeper : {A : Type 0} (f : ℕ → A) (n : ℕ) → 0 < n → f n ≡ f (suc (n - 1))
deeper f n h = ap f (let e : n ≡ suc (n - 1) = omega arith in e)
