-- The branch of a constructor in code.
use Rattle.std.specs.Prelude.{◌≡◌, ℕ, ◌<◌, length}
use Rattle.std.specs.List.{AllByRecursion}
use Rattle.core_rules.specs.Signature.{Branch}
use Rattle.core_rules.specs.Mapped.{AllEntries}

-- its ids are below n, it has a value for each of m variables, and the place of each variable that it keeps
pub record IsBranch (n m : ℕ) (b : Branch ℕ) : Type 0 where
  pub context : AllEntries (λ i. i < n) b.context
  pub values : AllByRecursion (λ i. i < n) b.values
  pub keep : length b.keep ≡ length b.context
  pub count : length b.values ≡ m
