-- Entries as values of source variables.
use Rattle.std.specs.Prelude.{◌≡◌, ℕ, ◌+◌, List, [], length}
use Rattle.std.specs.List.{AllByRecursion}
use Rattle.core_rules.specs.Term.{Term, Var}
use Rattle.core_rules.specs.Substitution.{shift}
use Rattle.core_rules.specs.Signature.{Solved, Telescope}
use Rattle.core_rules.specs.Mapped.{solved_map}
use Rattle.term_pool.specs.Pool.{Pool, tree}
use Rattle.elab_machine.specs.Written.{IsSource, source_values}
use Rattle.data_rules.specs.Rules.{inside}

-- the value of a variable of type id a inside which there are n others
pub record IsRisen (p q : Pool) (x a n : ℕ) (v : Solved ℕ) : Type 0 where
  pub source : IsSource (length q.trees) v
  pub is : solved_map (tree q) v ≡ record { name = x; value = Var n; ty = shift (tree p a) 0 (n + 1) }

-- the values of source variables under the entries, in the order of their binding
pub record AreSources (q : Pool) (es : Telescope Term) (vs : List (Solved ℕ)) : Type 0 where
  pub within : AllByRecursion (IsSource (length q.trees)) vs
  pub are : source_values q vs ≡ inside es []
