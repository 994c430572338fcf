-- What a checker reads terms over, and what its calls leave of it.
use Rattle.std.specs.Prelude.{◌≡◌, ℕ, ◌+◌, ◌<◌, List, [], ◌∷◌, length, reverse, Result, Ok, Err}
use Rattle.core_rules.specs.declared.Flag.{Flag}
use Rattle.core_rules.specs.Term.{Term, from_list}
use Rattle.core_rules.specs.Signature.{Entry, Context, Signature, FamDecl, onto}
use Rattle.core_rules.specs.Mapped.{AllEntries, entry_map, telescope_map}
use Rattle.core_rules.specs.InScope.{InScope, any_meta}
use Rattle.term_pool.specs.Pool.{Pool, tree, Extends}
use Rattle.core_terms.specs.Signature.{Stands, signature_in}
use Rattle.kernel_rules.specs.Outcome.{Outcome, Gives, Refuses}
use Rattle.kernel_rules.specs.Refusals.{Refusal}
use Rattle.kernel_rules.specs.TermReading.{InferOf, FitsOf, IsTypeOf, CheckOf, ShowsForm, ShowsSort, ShowsFunction, ShowsRecord, Agrees}
use Rattle.core_kernel.specs.declared.checker.Checker.{Checker}
use Rattle.core_kernel.specs.declared.checker.Parts.{Parts}
use Rattle.core_kernel.specs.declared.error.KernelError.{KernelError}
use Rattle.core_kernel.specs.declared.error.KernelError.TheVariants as E
use Rattle.conversion.specs.declared.conv.Conv as V
use Rattle.conversion.specs.declared.conv.Conv.TheVariants as C
use Rattle.core_kernel.specs.Answers.{RefusedBy}

-- the context of these entries, which stand outermost first
abbrev pub context_in : Pool → List (Entry ℕ) → Context Term
context_in p es = onto (telescope_map (tree p) es) []

abbrev pub signature_of : Checker → Signature Term
signature_of x = signature_in x.pool.now x.signature.now

abbrev pub context_of : Checker → Context Term
context_of x = context_in x.pool.now x.context.now.items

-- every id of the signature and of the context stands in the pool
pub record IsReady (x : Checker) : Type 0 where
  pub signature : Stands x.pool.now x.signature.now
  pub context : AllEntries (λ t. t < length x.pool.now.trees) x.context.now.items

-- t is a term of the pool, in scope in the context
pub record IsTerm (x : Checker) (t : ℕ) : Type 0 where
  pub within : t < length x.pool.now.trees
  pub scope : InScope (signature_of x) any_meta (length x.context.now.items) (tree x.pool.now t)

-- under one entry more
pub record IsBody (x : Checker) (t : ℕ) : Type 0 where
  pub within : t < length x.pool.now.trees
  pub scope : InScope (signature_of x) any_meta (length x.context.now.items + 1) (tree x.pool.now t)

-- the pool grew, and is the same pool
pub record Grows (x y : Checker) : Type 0 where
  pub same_reference : y.pool.ghost_name ≡ x.pool.ghost_name
  pub extends : Extends x.pool.now y.pool.now

-- what else terms are read over is the same
pub record Keeps (x y : Checker) : Type 0 where
  pub signature : y.signature.now ≡ x.signature.now
  pub context : y.context.now.items ≡ x.context.now.items
  pub limits : y.limits ≡ x.limits

-- over which signature, in which context and within which limits terms are read
pub record Over : Type 0 where
  pub signature : Signature Term
  pub context : Context Term
  pub fuel : ℕ
  pub depth : ℕ

abbrev pub over : Checker → Over
over x = record { signature = signature_of x; context = context_of x; fuel = x.limits.fuel; depth = x.limits.depth }

abbrev pub Infers : Over → Term → Outcome Refusal Term → Type 0
Infers o t = InferOf o.signature o.fuel o.depth o.context t

abbrev pub HasLevel : Over → Term → Outcome Refusal ℕ → Type 0
HasLevel o t = IsTypeOf o.signature o.fuel o.depth o.context t

abbrev pub Checks : Over → Term → Term → Outcome Refusal (Unit {0}) → Type 0
Checks o t a = CheckOf o.signature o.fuel o.depth o.context t a

-- the terms, innermost first, are those of the entries
abbrev pub FitsInto : Over → List Term → List (Entry Term) → Outcome Refusal (Unit {0}) → Type 0
FitsInto o ts es = FitsOf o.signature o.fuel o.depth o.context (from_list (reverse ts)) es []

abbrev pub Shows : Over → Term → Outcome Refusal Term → Type 0
Shows o a = ShowsForm o.signature o.fuel o.depth a

abbrev pub ShowsLevel : Over → Term → Outcome Refusal ℕ → Type 0
ShowsLevel o a = ShowsSort o.signature o.fuel o.depth a

abbrev pub ShowsParts : Over → Flag → Term → Outcome Refusal (Term × Term) → Type 0
ShowsParts o b a = ShowsFunction o.signature o.fuel o.depth b a

abbrev pub ShowsParams : Over → ℕ → FamDecl Term → Term → Outcome Refusal (List Term) → Type 0
ShowsParams o d decl a = ShowsRecord o.signature o.fuel o.depth d decl a

abbrev pub Agree : Over → Term → Term → Outcome Refusal (Unit {0}) → Type 0
Agree o a b = Agrees o.signature o.fuel o.depth a b

-- with one entry more
abbrev pub with_entry : Over → Entry Term → Over
with_entry o e = record { signature = o.signature; context = e ∷ o.context; fuel = o.fuel; depth = o.depth }

-- the tree of an id
abbrev pub term_of : Checker → ℕ → Term
term_of x t = tree x.pool.now t

-- the entry of an entry of ids
abbrev pub entry_of : Checker → Entry ℕ → Entry Term
entry_of x e = entry_map (tree x.pool.now) e

-- the parts of a function type
abbrev pub AnswersParts : Pool → (Outcome Refusal (Term × Term) → Type 0) → Result Parts KernelError → Type 0
AnswersParts p K (Ok w) = (w.dom < length p.trees) × (w.cod < length p.trees) × K (Gives (tree p w.dom, tree p w.cod))
AnswersParts p K (Err e) = RefusedBy p (λ r. K (Refuses r)) e

-- the answer for a verdict on the inferred type t and the wanted one u
abbrev pub agreement_by : V.Conv → ℕ → ℕ → Result (Unit {0}) KernelError
agreement_by C.Yes t u = Ok tt
agreement_by (C.No a b xs) t u = Err (E.Mismatch t u)
agreement_by C.OutOfFuel t u = Err E.OutOfFuel
agreement_by C.OutOfDepth t u = Err E.OutOfDepth
agreement_by (C.Blocked m) t u = Err (E.MetaLeft m)
agreement_by C.NoMemory t u = Err E.NoMemory
