-- Lists of ids, and of entries of ids, by what they stand for in a pool.
use Rattle.std.specs.Prelude.{◌≡◌, ℕ, ◌<◌, List, length, map}
use Rattle.std.specs.List.{AllByRecursion}
use Rattle.core_rules.specs.Term.{Term}
use Rattle.core_rules.specs.Signature.{Entry, Telescope}
use Rattle.core_rules.specs.Mapped.{AllEntries, telescope_map}
use Rattle.term_pool.specs.Pool.{Pool, tree}

pub record Stand (p : Pool) (xs : List ℕ) (ts : List Term) : Type 0 where
  pub below : AllByRecursion (λ i. i < length p.trees) xs
  pub is : map (tree p) xs ≡ ts

pub record StandEntries (p : Pool) (es : List (Entry ℕ)) (ts : Telescope Term) : Type 0 where
  pub below : AllEntries (λ i. i < length p.trees) es
  pub is : telescope_map (tree p) es ≡ ts
