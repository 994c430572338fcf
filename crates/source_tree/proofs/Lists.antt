-- Two lists compared place by place, and the sum over a list that stands still at 2^64 - 1.
use Rattle.std.proofs.Common.{◌≡◌, ◌≤◌, ◌+◌, ◌-◌, ◌^◌, ℕ, List, drop, length, map, min, sum, sym, arith}
use Rattle.std.proofs.lemmas.List.{same_lists, at_drop_all}
use Rattle.std.specs.List.{SameBelow}

-- two lists of one length that agree at each place are equal
pub same_throughout : {X : Type 0} (xs ys : List X) (n : ℕ) → SameBelow xs ys n → length xs ≡ length ys → length xs ≤ n → xs ≡ ys
same_throughout xs ys n same e h = same_lists xs ys e (λ k d below. sym (same k d (omega arith)))

-- n is the sum over the items before place i, or 2^64 - 1 where that is less
pub record IsSumBefore {X : Type 0} (f : X → ℕ) (xs : List X) (i n : ℕ) : Type 0 where
  pub within : n ≤ 2 ^ 64 - 1
  pub sums : min (n + sum (map f (drop i xs))) (2 ^ 64 - 1) ≡ min (sum (map f xs)) (2 ^ 64 - 1)

pub summed_throughout : {X : Type 0} (f : X → ℕ) (xs : List X) (i n : ℕ) → IsSumBefore f xs i n → length xs ≤ i → n ≡ min (sum (map f xs)) (2 ^ 64 - 1)
summed_throughout f xs i n s h =
    let none : sum (map f (drop i xs)) ≡ 0 = at_drop_all (λ ys. sum (map f ys)) xs i h in
    omega (arith, s.within, s.sums, none)
