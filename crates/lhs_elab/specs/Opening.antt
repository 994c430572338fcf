-- The entries inside a variable that is split, in code: the outermost one first.
use Rattle.std.specs.Prelude.{ℕ, ◌+◌, [], ◌∷◌, suc}
use Rattle.core_rules.specs.Term.{Term}
use Rattle.core_rules.specs.Substitution.{under}
use Rattle.core_rules.specs.Signature.{Telescope}
use Rattle.core_rules.specs.Mapped.{entry_map}
use Rattle.core_rules.specs.TypedTree.{into}

-- where u, over m new variables and those outside, which are so many, stands for the variable; i entries stand between it and the first one
abbrev pub inner_under : Term → ℕ → ℕ → ℕ → Telescope Term → Telescope Term
inner_under u m outer i [] = []
inner_under u m outer i (e ∷ es) = entry_map (under (into i (outer + 1 + i) m u)) e ∷ inner_under u m outer (suc i) es
