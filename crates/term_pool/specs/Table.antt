-- What a table of results has at a node under so many binders.
use Rattle.std.specs.Prelude.{◌≡◌, ℕ, List, Option, Some, ◌&&◌, ◌==◌, ◌⊎◌, IsSome}
use Rattle.std.specs.Map.{lookup}

-- results by node and number of binders
abbrev pub Results : Type 0
Results = List ((ℕ × ℕ) × ℕ)

abbrev pub found : Results → ℕ → ℕ → Option ℕ
found m t d = lookup (λ k. t == k.0 && d == k.1) m

-- there is a result
abbrev pub Has : Results → ℕ → ℕ → Type 0
Has m t d = IsSome (found m t d)

-- n has r at t under d binders, and is m elsewhere
pub record Puts (m : Results) (t d r : ℕ) (n : Results) : Type 0 where
  pub here : found n t d ≡ Some r
  pub elsewhere : (i j : ℕ) → (found n i j ≡ found m i j) ⊎ ((i ≡ t) × (j ≡ d) × (found n i j ≡ Some r))
