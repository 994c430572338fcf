-- How a name is made different from others. A text is its bytes.
use Rattle.std.specs.Prelude.{ℕ, Bool, false, ◌||◌, cond, List, [], ◌∷◌, ◌++◌, length, codes, zero, suc}
use Rattle.std.specs.Str.{bytes_eq}

abbrev pub Text : Type 0
Text = List ℕ

abbrev pub is_among : Text → List Text → Bool
is_among x [] = false
is_among x (y ∷ ys) = bytes_eq y x || is_among x ys

-- the first of x, x', x'', .. that is not taken, where n of them are tried and the next is taken for granted
abbrev pub apart : ℕ → List Text → Text → Text
apart zero taken x = x
apart (suc n) taken x = cond (is_among x taken) (apart n taken (x ++ codes "'")) x

-- x made different from the names that are taken. As many tries as there are names are enough (`different_is_not_among`)
abbrev pub different : List Text → Text → Text
different taken x = apart (length taken) taken x
