-- What an answer in code is to a reading by the written rules, over a pool. Nothing is said of an answer for want of memory.
use Rattle.std.specs.Prelude.{ℕ, ◌<◌, length, Result, Ok, Err}
use Rattle.core_rules.specs.Term.{Term}
use Rattle.term_pool.specs.Pool.{Pool, tree}
use Rattle.kernel_rules.specs.Outcome.{Outcome, Gives, Refuses}
use Rattle.el_outside.specs.declared.place.Pos.{Pos}
use Rattle.written_rules.specs.Refusals.{Refusal, Kind, Mismatch, DotWrong, NotAFunction, NotARecord, NotAType, NoSuchName, CannotInfer, BadField, OutOfFuel, OutOfDepth, at}
use Rattle.elab_machine.specs.declared.error.ElabKind.{ElabKind}
use Rattle.elab_machine.specs.declared.error.ElabKind.TheVariants as E
use Rattle.elab_machine.specs.declared.error.WrittenError.{WrittenError}
use Rattle.elab_machine.specs.declared.error.WrittenError.TheVariants as W

-- the kind with the trees of its ids
abbrev pub kind_in : Pool → ElabKind → Kind
kind_in p (E.Mismatch a b xs) = Mismatch (tree p a) (tree p b) xs
kind_in p (E.DotWrong a b xs) = DotWrong (tree p a) (tree p b) xs
kind_in p (E.NotAFunction a) = NotAFunction (tree p a)
kind_in p (E.NotARecord a) = NotARecord (tree p a)
kind_in p (E.NotAType a) = NotAType (tree p a)
kind_in p E.NoSuchName = NoSuchName
kind_in p E.CannotInfer = CannotInfer
kind_in p E.BadField = BadField
kind_in p E.OutOfFuel = OutOfFuel
kind_in p E.OutOfDepth = OutOfDepth

-- its ids are below n
abbrev pub IsBelow : ℕ → ElabKind → Type 0
IsBelow n (E.Mismatch a b xs) = (a < n) × (b < n)
IsBelow n (E.DotWrong a b xs) = (a < n) × (b < n)
IsBelow n (E.NotAFunction a) = a < n
IsBelow n (E.NotARecord a) = a < n
IsBelow n (E.NotAType a) = a < n
IsBelow n E.NoSuchName = Unit {0}
IsBelow n E.CannotInfer = Unit {0}
IsBelow n E.BadField = Unit {0}
IsBelow n E.OutOfFuel = Unit {0}
IsBelow n E.OutOfDepth = Unit {0}

abbrev pub refused_at : Pos → ElabKind → WrittenError
refused_at p k = W.Refused (record { pos = p; kind = k })

-- K holds of the refusal that an error is; its ids stand in the pool
abbrev pub RefusedBy : Pool → (Refusal → Type 0) → WrittenError → Type 0
RefusedBy p K (W.Refused e) = IsBelow (length p.trees) e.kind × K (at e.pos (kind_in p e.kind))
RefusedBy p K W.NoMemory = Unit {0}

-- K holds of the outcome: a value that is what it is
abbrev pub Answers : {A : Type 0} → Pool → (Outcome Refusal A → Type 0) → Result A WrittenError → Type 0
Answers p K (Ok a) = K (Gives a)
Answers p K (Err e) = RefusedBy p (λ r. K (Refuses r)) e

-- the term of an id
abbrev pub AnswersTerm : Pool → (Outcome Refusal Term → Type 0) → Result ℕ WrittenError → Type 0
AnswersTerm p K (Ok t) = (t < length p.trees) × K (Gives (tree p t))
AnswersTerm p K (Err e) = RefusedBy p (λ r. K (Refuses r)) e
