-- How deep tokens are nested, and how many stand before the first that is nested too deep. What a token does to the nesting is the grammar's.
use Rattle.std.specs.Prelude.{ℕ, ◌+◌, if◌then◌else◌, List, [], ◌∷◌, nat_lt}

module _ {S D : Type 0} (nesting : D → S → ℕ) (behind : D → S → D) where
  -- the nesting of each token
  abbrev pub nestings : D → List S → List ℕ
  nestings d [] = []
  nestings d (s ∷ i) = nesting d s ∷ nestings (behind d s) i

  -- how many tokens stand before the first whose nesting is above the limit
  abbrev pub shallow : ℕ → D → List S → ℕ
  shallow limit d [] = 0
  shallow limit d (s ∷ i) = if nat_lt limit (nesting d s) then 0 else shallow limit (behind d s) i + 1

-- how many numbers come before the first above the limit
abbrev pub leading : ℕ → List ℕ → ℕ
leading limit [] = 0
leading limit (n ∷ ns) = if nat_lt limit n then 0 else leading limit ns + 1
