-- Items that are gone through once, in the order in which they come.
use Rattle.std.specs.Prelude.{◌≡◌, ℕ, ◌⊎◌, ◌++◌, List, [], ◌∷◌}

-- a node with the number of binders around it
abbrev pub Item : Type 0
Item = ℕ × ℕ

abbrev pub Among : List Item → Item → Type 0
Among [] x = ⊥
Among (y ∷ xs) x = (y ≡ x) ⊎ Among xs x

-- ys are the items xs and x, which is put after them where it is not among them
abbrev pub Adds : List Item → Item → List Item → Type 0
Adds xs x ys = ((ys ≡ xs) × Among xs x) ⊎ (ys ≡ xs ++ x ∷ [])
