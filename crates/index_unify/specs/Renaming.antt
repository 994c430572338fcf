-- The terms that the first variables of a context become in another.
use Rattle.std.specs.Prelude.{◌≡◌, ℕ, ◌<◌, List, length, map, Option, Some, None}
use Rattle.std.specs.List.{AllByRecursion}
use Rattle.core_rules.specs.declared.Flag.TheVariants.{Explicit}
use Rattle.core_rules.specs.Term.{Var}
use Rattle.core_rules.specs.Signature.{Entry, numbers}
use Rattle.unify_rules.specs.Joined.{place_in}
use Rattle.term_pool.specs.Pool.{Pool, tree}

pub record IsRenaming (p : Pool) (ks ids : List ℕ) : Type 0 where
  pub within : AllByRecursion (λ i. i < length p.trees) ids
  pub is : map (tree p) ids ≡ map (λ i. Var (place_in ks i)) (numbers 0 (length ids))

-- the entry with another type
abbrev pub with_type_ids : Option (Entry ℕ) → ℕ → Entry ℕ
with_type_ids None a = record { name = 0; flag = Explicit; ty = a }
with_type_ids (Some e) a = record { name = e.name; flag = e.flag; ty = a }
