-- What the calls of the kernel ask of a context and a term.
use Rattle.std.specs.Prelude.{ℕ, ◌<◌, length}
use Rattle.core_rules.specs.InScope.{InScope, any_meta}
use Rattle.core_rules.specs.Mapped.{AllEntries}
use Rattle.core_rules.specs.Signature.{Signature, Telescope}
use Rattle.term_pool.specs.Pool.{Pool, tree}
use Rattle.core_terms.specs.Signature.{signature_in}

-- the types of the entries are terms of the pool, and so is t, which is in scope under the entries
pub record IsAsked (p : Pool) (g : Signature ℕ) (es : Telescope ℕ) (t : ℕ) : Type 0 where
  pub context : AllEntries (λ i. i < length p.trees) es
  pub within : t < length p.trees
  pub scope : InScope (signature_in p g) any_meta (length es) (tree p t)
