-- A family as it is known before its constructors or fields.
use Rattle.std.specs.Prelude.{◌<◌, length, Result}
use Rattle.core_rules.specs.Term.{Term}
use Rattle.core_rules.specs.Signature.{FamDecl}
use Rattle.core_rules.specs.Mapped.{AllEntries, telescope_map}
use Rattle.term_pool.specs.Pool.{Pool, tree}
use Rattle.kernel_rules.specs.Outcome.{Outcome}
use Rattle.data_rules.specs.Refusals.{Refusal}
use Rattle.data_rules.specs.Rules.{known_family}
use Rattle.data_elab.specs.declared.error.DataError.{DataError}
use Rattle.data_elab.specs.declared.heading.Heading.{Heading}
use Rattle.data_elab.specs.Answers.{Answers}

-- its ids stand in the pool
pub record IsHeading (p : Pool) (h : Heading) : Type 0 where
  pub params : AllEntries (λ t. t < length p.trees) h.params.items
  pub indices : AllEntries (λ t. t < length p.trees) h.indices.items

-- the family that it gives, which has no constructors and fields yet
abbrev pub heading_in : Pool → Heading → FamDecl Term
heading_in p h = known_family h.name (telescope_map (tree p) h.params.items) (telescope_map (tree p) h.indices.items) h.level

-- an answer is what a reading of a heading comes to
abbrev pub AnswersHeading : Pool → (Outcome Refusal (FamDecl Term) → Type 0) → Result Heading DataError → Type 0
AnswersHeading p K r = Answers p (IsHeading p) (heading_in p) K r
