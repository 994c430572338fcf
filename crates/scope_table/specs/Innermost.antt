-- The innermost variable of each text, as it is kept beside the variables.
use Rattle.std.specs.Prelude.{◌≡◌, ◌<◌, ◌≤◌, ◌^◌, ℕ, suc, eqb, List, [], ◌∷◌, Some, if◌then◌else◌, length, slice_index_or}
use Rattle.scope_table.specs.declared.locals.Variable.{Variable}
use Rattle.scope_table.specs.Known.{place_of}

abbrev pub text_of : List (List ℕ) → Variable → List ℕ
text_of texts v = slice_index_or texts v.text []

-- how many variables there are up to the innermost one whose text is at the place k, or 0 for none; the innermost comes first
abbrev pub depth_of : List Variable → ℕ → ℕ
depth_of [] k = 0
depth_of (v ∷ vs) k = if eqb k v.text then suc (length vs) else depth_of vs k

-- each variable knows its text, and which variable it hides
abbrev pub Hide : List (List ℕ) → List Variable → Type 0
Hide texts [] = Unit {0}
Hide texts (v ∷ vs) = (place_of texts (text_of texts v) ≡ Some v.text) × (v.hides ≡ depth_of vs v.text) × Hide texts vs

pub record Kept (texts : List (List ℕ)) (depths : List ℕ) (vs : List Variable) : Type 0 where
  pub few : length vs < 2 ^ 32
  pub room : length texts ≤ length depths
  pub innermost : (k : ℕ) → slice_index_or depths k 0 ≡ depth_of vs k
  pub hide : Hide texts vs
