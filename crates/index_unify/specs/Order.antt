-- The variables that wait for their place in a branch, by marks.
use Rattle.std.specs.Prelude.{ℕ, Bool, false, cond, List, [], ◌∷◌, get_or, zero, suc}

abbrev pub marked : List Bool → ℕ → Bool
marked bs i = get_or bs i false

-- those of the first n that are marked, outermost first
abbrev pub waiting : List Bool → ℕ → List ℕ
waiting bs zero = []
waiting bs (suc n) = cond (marked bs n) (n ∷ waiting bs n) (waiting bs n)
