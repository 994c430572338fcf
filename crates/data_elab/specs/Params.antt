-- Entries that a reader enters.
use Rattle.std.specs.Prelude.{ℕ, ◌<◌, List, [], ◌∷◌, length, map, Result, Ok, Err}
use Rattle.core_rules.specs.declared.Flag.{Flag}
use Rattle.core_rules.specs.Term.{Term}
use Rattle.core_rules.specs.Substitution.{shift}
use Rattle.core_rules.specs.Signature.{Entry, Telescope}
use Rattle.core_rules.specs.Mapped.{AllEntries, telescope_map}
use Rattle.std.specs.declared.vec.Vec.{Vec}
use Rattle.data_rules.specs.Refusals.{Refusal}
use Rattle.kernel_rules.specs.Outcome.{Outcome, Gives, Refuses}
use Rattle.core_rules.specs.Typing.{entry}
use Rattle.term_pool.specs.Pool.{Pool, StandsFor, tree}
use Rattle.resolved_tree.specs.declared.resolved.ResolvedBinder.{ResolvedBinder}
use Rattle.written_rules.specs.Rules.{BinderMeaning}
use Rattle.written_rules.specs.Expressions.{binder_meaning}
use Rattle.data_rules.specs.Reading.{Reads}
use Rattle.data_elab.specs.declared.error.DataError.{DataError}
use Rattle.data_elab.specs.declared.reader.Reader.{Reader}
use Rattle.data_elab.specs.Answers.{Answers, RefusedBy}
use Rattle.data_elab.specs.Reader.{Enters, Read, over, signature_of, term_of}

-- the name x of the type a is entered; id t is this type inside it
pub record IsEntered (x y : Reader) (f : Flag) (name a t : ℕ) : Type 0 where
  pub enters : Enters x y (entry f name (term_of x a) ∷ [])
  pub ty : StandsFor y.pool.now t (shift (term_of x a) 0 1)

-- what is read is entered
pub record AreEntered (x y : Reader) (m : Reads (Telescope Term)) : Type 0 where
  pub entries : Telescope Term
  pub enters : Enters x y entries
  pub is : Read (over x) m (Gives entries)

-- an answer is what the reading m comes to, and its entries are entered
abbrev pub AnswersEntered : Reader → Reader → Reads (Telescope Term) → Result (Unit {0}) DataError → Type 0
AnswersEntered x y m (Ok o) = AreEntered x y m
AnswersEntered x y m (Err e) = RefusedBy y.pool.now (λ r. Read (over x) m (Refuses r)) e

-- the binders as the rules see them
abbrev pub binders_in : Reader → List ResolvedBinder → List BinderMeaning
binders_in x bs = map (binder_meaning (signature_of x)) bs

-- an answer is what a reading of entries comes to
abbrev pub AnswersEntries : {G : Type 0} → Pool → (Outcome Refusal (Telescope Term) → Type 0) → Result (Vec (Entry ℕ) G) DataError → Type 0
AnswersEntries {G} p K r =
    Answers p (λ (v : Vec (Entry ℕ) G). AllEntries (λ t. t < length p.trees) v.items) (λ (v : Vec (Entry ℕ) G). telescope_map (tree p) v.items) K r
