-- Patterns in a list.
use Rattle.std.specs.Prelude.{ℕ, List, [], ◌∷◌}
use Rattle.core_rules.specs.Signature.{CorePat, CorePats, NoPat, AndPat}

abbrev pub pats_of : List (CorePat ℕ) → CorePats ℕ
pats_of [] = NoPat
pats_of (p ∷ ps) = AndPat p (pats_of ps)
