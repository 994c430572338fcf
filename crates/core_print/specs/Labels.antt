-- A name in print as code keeps it, and marks of which of x, x', x'', .. are taken.
use Rattle.std.specs.Prelude.{◌≡◌, ℕ, ◌<◌, Bool, true, false, List, [], ◌∷◌, ◌++◌, length, get_or, codes, zero, suc, Option, Some, None}
use Rattle.core_print.specs.Apart.{Text, is_among}
use Rattle.core_print.specs.Names.{name_text, unknown}
use Rattle.core_print.specs.declared.label.Label.{Label}

-- x with n ' after it
abbrev pub primed : Text → ℕ → Text
primed x zero = x
primed x (suc n) = primed x n ++ codes "'"

-- where ns are the texts of names
abbrev pub base_text : List Text → Option (Option ℕ) → Text
base_text ns (Some (Some x)) = name_text ns x
base_text ns (Some None) = codes "x"
base_text ns None = unknown

abbrev pub label_text : List Text → Label → Text
label_text ns l = primed (base_text ns l.base) l.primes

-- mark k says whether x with k ' after it is among the names
pub record Marks (ns : List Text) (x : Text) (ms : List Bool) : Type 0 where
  pub at : (k : ℕ) → k < length ms → get_or ms k false ≡ is_among (primed x k) ns

-- the number of marks before the first that is not set
abbrev pub first_false : List Bool → ℕ
first_false [] = 0
first_false (false ∷ ms) = 0
first_false (true ∷ ms) = suc (first_false ms)
