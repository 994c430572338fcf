-- What the test of the rule keeps of the words that it read.
use Rattle.std.specs.Prelude.{◌≡◌, ◌≤◌, ℕ, List, [], ◌∷◌, length, Option, Some, None, is_some}
use Rattle.command_line.specs.declared.rule.Left.{Left}
use Rattle.command_line.specs.declared.rule.Left.TheVariants.{Nothing, One, Two, Three, Many}
use Rattle.command_line.specs.declared.rule.Next.{Next}
use Rattle.command_line.specs.declared.rule.Seen.{Seen}
use Rattle.command_line.specs.Rule.{Parts}

-- the words that are left, or that they are too many for any mode
abbrev pub IsLeft : Left → List (List ℕ) → Type 0
IsLeft Nothing words = words ≡ []
IsLeft (One a) words = words ≡ a.now ∷ []
IsLeft (Two a b) words = words ≡ a.now ∷ b.now ∷ []
IsLeft (Three a b c) words = words ≡ a.now ∷ b.now ∷ c.now ∷ []
IsLeft Many words = 4 ≤ length words

-- which options were given, and the words that are left
pub record Sees (s : Seen) (p : Parts) : Type 0 where
  pub fuel : s.fuel ≡ is_some p.fuel
  pub depth : s.depth ≡ is_some p.depth
  pub order : s.order ≡ is_some p.order
  pub left : IsLeft s.left p.left

-- the outcome is that of the rule
abbrev pub SeesParts : Option Seen → Option Parts → Type 0
SeesParts None None = Unit {0}
SeesParts (Some s) (Some p) = Sees s p
SeesParts _ _ = ⊥

abbrev pub SeesAfter : Option (Next × Seen) → Option (Next × Parts) → Type 0
SeesAfter None None = Unit {0}
SeesAfter (Some s) (Some p) = (s.0 ≡ p.0) × Sees s.1 p.1
SeesAfter _ _ = ⊥
