-- What it is to be viable, and where a list is refused. Derivations are those of any grammar: f puts the tokens of one in front of others. Of a
-- list, `shallow` says how many tokens stand before the first that is nested too deep.
use Rattle.std.specs.Prelude.{◌≡◌, ℕ, ◌≤◌, List, [], ◌∷◌, ◌++◌, length}

-- the tokens can be gone on with to some that have a derivation
pub record IsViable {S D : Type 0} (f : D → List S → List S) (c : List S) : Type 0 where
  pub derivation : D
  pub more : List S
  pub whole : f derivation [] ≡ c ++ more

-- with the next token the front is no longer viable; at the end the whole has no derivation
abbrev pub IsWrong : {S D : Type 0} → (D → List S → List S) → List S → List S → Type 0
IsWrong {D = D} f c [] = (d : D) → f d [] ≡ c → ⊥
IsWrong f c (s ∷ rest) = IsViable f (c ++ s ∷ []) → ⊥

-- the first token with which the front is not viable, where no token before it is nested too deep
abbrev pub IsUnexpected : {S D : Type 0} → (D → List S → List S) → (List S → ℕ) → List S → List S → Type 0
IsUnexpected f shallow front rest = IsViable f front × IsWrong f front rest × (length front ≤ shallow (front ++ rest))

-- the first token that is nested too deep, where with it the front is viable
abbrev pub IsTooNested : {S D : Type 0} → (D → List S → List S) → (List S → ℕ) → List S → List S → Type 0
IsTooNested f shallow front [] = ⊥
IsTooNested f shallow front (s ∷ rest) = IsViable f (front ++ s ∷ []) × (length front ≡ shallow (front ++ s ∷ rest))
