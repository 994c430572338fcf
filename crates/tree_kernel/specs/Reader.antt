-- What a reader reads trees over, what its calls leave of it, and what its answers on families are to the rules.
use Rattle.std.specs.Prelude.{◌≡◌, ℕ, ◌<◌, List, length, map, Option, Some, None, Result, Ok, Err}
use Rattle.std.specs.List.{AllByRecursion}
use Rattle.core_rules.specs.Term.{Term}
use Rattle.core_rules.specs.Elimination.{Elim}
use Rattle.core_rules.specs.Signature.{Signature, Family, fam_decl, cons_of, fields_of}
use Rattle.core_rules.specs.Mapped.{fam_map, AllFamily}
use Rattle.term_pool.specs.Pool.{Pool, tree, Extends}
use Rattle.core_terms.specs.Signature.{Stands, signature_in, decl_of, fam_of}
use Rattle.weak_head.specs.Elims.{spine_in}
use Rattle.weak_head.specs.States.{AppliedBelow}
use Rattle.weak_head.specs.declared.state.Applied.{Applied}
use Rattle.kernel_rules.specs.Outcome.{Outcome, Gives, Refuses}
use Rattle.kernel_rules.specs.Refusals.{Refusal, DeclRefusal, BadTree, AfterTerms}
use Rattle.kernel_rules.specs.TermReading.{ShowsSpine}
use Rattle.kernel_rules.specs.TreeReading as T
use Rattle.kernel_rules.specs.TreeReading.{record_shown}
use Rattle.core_kernel.specs.Answers.{RefusedBy}
use Rattle.core_kernel.specs.declared.error.KernelError.{KernelError}
use Rattle.tree_kernel.specs.Answers.{RefusedDecl}
use Rattle.tree_kernel.specs.declared.error.DeclError.{DeclError}
use Rattle.tree_kernel.specs.declared.reader.Reader.{Reader}
use Rattle.tree_kernel.specs.declared.reader.FamilyAt.{FamilyAt}

abbrev pub signature_of : Reader → Signature Term
signature_of x = signature_in x.pool.now x.signature.now

abbrev pub term_of : Reader → ℕ → Term
term_of x t = tree x.pool.now t

abbrev pub fuel_of : Reader → ℕ
fuel_of x = x.limits.fuel

abbrev pub depth_of : Reader → ℕ
depth_of x = x.limits.depth

-- every id of the signature stands in the pool
pub record IsReady (x : Reader) : Type 0 where
  pub signature : Stands x.pool.now x.signature.now

-- the pool grew, and is the same pool; the rest stays
pub record Grows (x y : Reader) : Type 0 where
  pub same_reference : y.pool.ghost_name ≡ x.pool.ghost_name
  pub extends : Extends x.pool.now y.pool.now
  pub signature : y.signature.now ≡ x.signature.now
  pub limits : y.limits ≡ x.limits

-- K holds of the head and its eliminations
abbrev pub AnswersSpine : Pool → (Outcome Refusal (Term × List Elim) → Type 0) → Result Applied KernelError → Type 0
AnswersSpine p K (Ok a) = AppliedBelow (length p.trees) a × K (Gives (tree p a.head, spine_in (tree p) a.spine.items))
AnswersSpine p K (Err e) = RefusedBy p (λ r. K (Refuses r)) e

-- a record at its parameters
abbrev pub ShowsRecordAt : Signature Term → ℕ → ℕ → Term → Outcome DeclRefusal T.FamilyAt → Type 0
ShowsRecordAt g fuel depth a = AfterTerms (ShowsSpine g fuel depth a) (λ p q. q ≡ record_shown g p.0 p.1)

abbrev pub family_in : (ℕ → Term) → FamilyAt → T.FamilyAt
family_in f x = record { fam = x.fam; decl = fam_map f (fam_of x.entry.now.decl); params = map f x.params.items; indices = map f x.indices.items }

abbrev pub family_or : (ℕ → Term) → Option FamilyAt → Outcome DeclRefusal T.FamilyAt
family_or f None = Refuses BadTree
family_or f (Some x) = Gives (family_in f x)

-- what the signature says of the family, and its ids stand in the pool
pub record IsFamilyAt (p : Pool) (g : Signature ℕ) (x : FamilyAt) : Type 0 where
  pub is_family : decl_of x.entry.now.decl ≡ Family (fam_of x.entry.now.decl)
  pub is_decl : fam_decl g x.fam ≡ Some (fam_of x.entry.now.decl)
  pub cons : x.entry.now.cons ≡ cons_of g x.fam
  pub fields : x.entry.now.fields ≡ fields_of g x.fam
  pub decl : AllFamily (λ t. t < length p.trees) (fam_of x.entry.now.decl)
  pub params : AllByRecursion (λ t. t < length p.trees) x.params.items
  pub indices : AllByRecursion (λ t. t < length p.trees) x.indices.items

abbrev pub FamilyStands : Pool → Signature ℕ → Option FamilyAt → Type 0
FamilyStands p g None = Unit {0}
FamilyStands p g (Some x) = IsFamilyAt p g x

abbrev pub AnswersFamilyAt : Pool → Signature ℕ → (Outcome DeclRefusal T.FamilyAt → Type 0) → Result FamilyAt DeclError → Type 0
AnswersFamilyAt p g K (Ok x) = IsFamilyAt p g x × K (Gives (family_in (tree p) x))
AnswersFamilyAt p g K (Err e) = RefusedDecl p (λ r. K (Refuses r)) e
