-- What a declaration is read over, and what the calls of a reader leave of it.
use Rattle.std.specs.Prelude.{◌≡◌, ℕ, ◌<◌, [], ◌++◌, length, Result}
use Rattle.core_rules.specs.Term.{Term}
use Rattle.core_rules.specs.Signature.{Signature, Telescope}
use Rattle.core_rules.specs.Mapped.{AllEntries, telescope_map}
use Rattle.core_rules.specs.Heads.{Answer}
use Rattle.term_pool.specs.Pool.{Pool, tree, Extends}
use Rattle.core_terms.specs.Signature.{Stands, signature_in}
use Rattle.weak_head.specs.States.{AppliedBelow, answer_in}
use Rattle.kernel_rules.specs.Outcome.{Outcome}
use Rattle.written_rules.specs.Refusals as written
use Rattle.written_rules.specs.Asking.{Asking, Comes}
use Rattle.written_rules.specs.Rules.{Values}
use Rattle.data_rules.specs.Refusals.{Refusal}
use Rattle.data_rules.specs.Reading.{Reads, elaborated, gives}
use Rattle.data_rules.specs.Rules.{inside}
use Rattle.data_elab.specs.declared.error.DataError.{DataError}
use Rattle.data_elab.specs.declared.reader.Reader.{Reader}
use Rattle.data_elab.specs.declared.reader.Shown.{Shown}
use Rattle.data_elab.specs.declared.reader.Typed as T
use Rattle.data_elab.specs.Answers.{Answers}

-- ---- the reader

-- the signature over trees
abbrev pub signature_of : Reader → Signature Term
signature_of x = signature_in x.pool.now x.signature.now

-- the tree of an id
abbrev pub term_of : Reader → ℕ → Term
term_of x t = tree x.pool.now t

-- the parameters and fields before, as entries over trees
abbrev pub context_of : Reader → Telescope Term
context_of x = telescope_map (tree x.pool.now) x.context.now.items

-- the source variables are the entries
abbrev pub values_of : Reader → Values
values_of x = inside (context_of x) []

-- every id of the signature and of the entries stands in the pool
pub record IsReady (x : Reader) : Type 0 where
  pub signature : Stands x.pool.now x.signature.now
  pub context : AllEntries (λ t. t < length x.pool.now.trees) x.context.now.items

-- the pool grew, and is the same pool
pub record Grows (x y : Reader) : Type 0 where
  pub same_reference : y.pool.ghost_name ≡ x.pool.ghost_name
  pub extends : Extends x.pool.now y.pool.now

-- what else a declaration is read over is the same
pub record Keeps (x y : Reader) : Type 0 where
  pub signature : y.signature.now ≡ x.signature.now
  pub context : y.context.now.items ≡ x.context.now.items
  pub limits : y.limits ≡ x.limits

-- there are these entries more
pub record Enters (x y : Reader) (es : Telescope Term) : Type 0 where
  pub signature : y.signature.now ≡ x.signature.now
  pub limits : y.limits ≡ x.limits
  pub context : context_of y ≡ context_of x ++ es
  pub ready : IsReady y

-- over which signature and within which limits a reading comes to something
pub record Over : Type 0 where
  pub signature : Signature Term
  pub fuel : ℕ
  pub depth : ℕ

-- those of a reader
abbrev pub over : Reader → Over
over x = record { signature = signature_of x; fuel = x.limits.fuel; depth = x.limits.depth }

-- a reading comes to r there
abbrev pub Read : {A : Type 0} → Over → Asking A → A → Type 0
Read o m r = Comes o.signature o.fuel o.depth m r

-- ---- answers

-- the reading of an expression, as one of its declaration
abbrev pub read_only : {A : Type 0} → Asking (Outcome written.Refusal A) → Reads A
read_only m = elaborated m gives

-- a type and the level of its sort
abbrev pub AnswersTyped : Pool → (Outcome Refusal (Term × ℕ) → Type 0) → Result T.Typed DataError → Type 0
AnswersTyped p K r = Answers p (λ (t : T.Typed). t.term < length p.trees) (λ (t : T.Typed). (tree p t.term, t.level)) K r

-- a head form
abbrev pub AnswersShown : Pool → (Outcome Refusal Answer → Type 0) → Result Shown DataError → Type 0
AnswersShown p K r = Answers p (λ (s : Shown). AppliedBelow (length p.trees) s.form) (λ (s : Shown). answer_in (tree p) s.meta s.form) K r
