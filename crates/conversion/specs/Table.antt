-- What a table has at a pair of ids: the least depth at which the pair was opened.
use Rattle.std.specs.Prelude.{◌≡◌, ℕ, List, Option, Some, ◌&&◌, ◌==◌, ◌⊎◌}
use Rattle.std.specs.Map.{lookup}

abbrev pub Depths : Type 0
Depths = List ((ℕ × ℕ) × ℕ)

abbrev pub yes_at : Depths → ℕ → ℕ → Option ℕ
yes_at m t u = lookup (λ k. t == k.0 && u == k.1) m

-- n has d at t and u, and is m elsewhere
pub record Puts (m : Depths) (t u d : ℕ) (n : Depths) : Type 0 where
  pub here : yes_at n t u ≡ Some d
  pub elsewhere : (i j : ℕ) → (yes_at n i j ≡ yes_at m i j) ⊎ ((i ≡ t) × (j ≡ u) × (yes_at n i j ≡ Some d))
