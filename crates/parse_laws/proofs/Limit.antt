-- The count of nesting, and what a greater limit changes.
use Rattle.std.proofs.Common.{◌≡◌, ℕ, suc, ◌≤◌, ◌+◌, Bool, true, false, cond, nat_lt, List, [], ◌∷◌, ◌++◌, length, refl, ap, arith}
use Rattle.std.proofs.lemmas.Grind.{common_steps}
use Rattle.parse_laws.specs.Nesting.{nestings, shallow, leading}
use Rattle.parse_laws.specs.Reading.{IsUnexpected}

module _ {S D : Type 0} (nesting : D → S → ℕ) (behind : D → S → D) where
  either : (b : Bool) (m n : ℕ) → m ≡ n → cond b 0 (m + 1) ≡ cond b 0 (n + 1)
  either b m n e = ap (λ (x : ℕ). cond b 0 (x + 1)) e

  pub shallow_counted : (limit : ℕ) (d : D) (i : List S) → shallow nesting behind limit d i ≡ leading limit (nestings nesting behind d i)
  shallow_counted limit d [] = refl
  shallow_counted limit d (s ∷ i) = either (nat_lt limit (nesting d s)) (shallow nesting behind limit (behind d s) i) (leading limit (nestings nesting behind (behind d s) i)) (shallow_counted limit (behind d s) i)

  few : (b : Bool) (m n : ℕ) → m ≤ n → cond b 0 (m + 1) ≤ suc n
  few true m n le = omega arith
  few false m n le = omega arith

  -- no more tokens stand before the first that is nested too deep than there are
  pub none_deep : (limit : ℕ) (d : D) (i : List S) → shallow nesting behind limit d i ≤ length i
  none_deep limit d [] = omega arith
  none_deep limit d (s ∷ i) = few (nat_lt limit (nesting d s)) (shallow nesting behind limit (behind d s) i) (length i) (none_deep limit (behind d s) i)

  later : (b c : Bool) (m n : ℕ) → (c ≡ true → b ≡ true) → m ≤ n → cond b 0 (m + 1) ≤ cond c 0 (n + 1)
  later true c m n f le = omega arith
  later false false m n f le = omega arith
  later false true m n f le = absurd (cc (f refl))

  above : (low high n : ℕ) → low ≤ high → nat_lt high n ≡ true → nat_lt low n ≡ true
  above low high n le h = grind (arith, common_steps)

  pub greater : (low high : ℕ) → low ≤ high → (d : D) (i : List S) → shallow nesting behind low d i ≤ shallow nesting behind high d i
  greater low high le d [] = omega arith
  greater low high le d (s ∷ i) = later (nat_lt low (nesting d s)) (nat_lt high (nesting d s)) (shallow nesting behind low (behind d s) i) (shallow nesting behind high (behind d s) i) (above low high (nesting d s) le) (greater low high le (behind d s) i)

module _ {S : Type 0} (low high : List S → ℕ) (more : (i : List S) → low i ≤ high i) where
  pub still_within : (i : List S) → high i ≤ length i → low i ≡ length i → high i ≡ length i
  still_within i le e = omega (arith, more i)

  pub still_unexpected : {D : Type 0} (f : D → List S → List S) (front rest : List S) → IsUnexpected f low front rest → IsUnexpected f high front rest
  still_unexpected f front rest u = (u.0, u.1, omega (arith, u.2, more (front ++ rest)))
