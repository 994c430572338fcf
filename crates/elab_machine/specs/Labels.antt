-- The labels of a record's values.
use Rattle.std.specs.Prelude.{◌≡◌, ℕ, ◌+◌, ◌==◌, eqb, cond, not, is_some, Bool, false, List, [], ◌∷◌, Option, Some, None}
use Rattle.std.specs.Map.{lookup}
use Rattle.resolved_tree.specs.declared.resolved.ResolvedValue.{ResolvedValue}
use Rattle.elab_machine.specs.declared.labels.Label.{Label}

-- the label of name x among the values from place i on: where it stands first, and whether it stands there alone
abbrev pub label_of : ℕ → ℕ → List ResolvedValue → Option Label
label_of x i [] = None
label_of x i (v ∷ vs) = cond (eqb v.name.id x) (Some (record { first = i; once = not (is_some (label_of x (i + 1) vs)) })) (label_of x (i + 1) vs)

-- a label that stands alone
abbrev pub is_once : Option Label → Bool
is_once None = false
is_once (Some l) = l.once

abbrev pub labelled : List (ℕ × Label) → ℕ → Option Label
labelled m x = lookup (λ k. x == k) m

-- n has l at x, and is m elsewhere
abbrev pub Puts : List (ℕ × Label) → ℕ → Label → List (ℕ × Label) → Type 0
Puts m x l n = (y : ℕ) → labelled n y ≡ cond (eqb x y) (Some l) (labelled m y)
