-- What a writer reads expressions over, and what its calls leave of it.
use Rattle.std.specs.Prelude.{Option, Some, None, ◌≡◌, ℕ, ◌-◌, ◌<◌, ◌≤◌, List, [], ◌∷◌, ◌++◌, length, map, reverse, Bool, true, false, Result, Ok, Err}
use Rattle.std.specs.List.{AllByRecursion}
use Rattle.core_rules.specs.declared.Flag.{Flag}
use Rattle.core_rules.specs.declared.Flag.TheVariants as flag
use Rattle.core_rules.specs.BoundedLaws.{shown}
use Rattle.core_rules.specs.Term.{Term, Pi, Sort}
use Rattle.core_rules.specs.Substitution.{shift}
use Rattle.core_rules.specs.Signature.{Signature, Solved}
use Rattle.core_rules.specs.Heads.{Answer, Form}
use Rattle.term_pool.specs.Pool.{Pool, tree, Extends}
use Rattle.core_terms.specs.Signature.{Stands, signature_in}
use Rattle.weak_head.specs.States.{AppliedBelow, answer_in}
use Rattle.conversion.specs.declared.conv.Conv as V
use Rattle.conversion.specs.declared.conv.Conv.TheVariants as C
use Rattle.kernel_rules.specs.Outcome.{Outcome, Gives, Refuses}
use Rattle.el_outside.specs.declared.place.Pos.{Pos}
use Rattle.resolved_tree.specs.declared.resolved.ResolvedName.{ResolvedName}
use Rattle.written_rules.specs.Refusals.{Refusal, NotAFunction, CannotInfer, at}
use Rattle.written_rules.specs.Asking.{Asking, Comes}
use Rattle.written_rules.specs.Rules.{Values, binding, function_shown}
use Rattle.elab_machine.specs.declared.values.Value.{Value}
use Rattle.elab_machine.specs.declared.writer.Writer.{Writer}
use Rattle.elab_machine.specs.declared.writer.Shown.{Shown}
use Rattle.elab_machine.specs.declared.writer.Parts.{Parts}
use Rattle.elab_machine.specs.declared.writer.Fit.{Fit}
use Rattle.elab_machine.specs.declared.writer.Fit.TheVariants as F
use Rattle.elab_machine.specs.declared.error.ElabKind.TheVariants as E
use Rattle.elab_machine.specs.declared.error.WrittenError.{WrittenError}
use Rattle.elab_machine.specs.declared.error.WrittenError.TheVariants as W
use Rattle.elab_machine.specs.Answers.{RefusedBy, refused_at}

-- ---- values

-- a value under n binders more
abbrev pub risen : ℕ → Solved Term → Solved Term
risen n v = record { name = v.name; value = shift v.value 0 n; ty = shift v.ty 0 n }

-- a value where it was bound: its type is brought inside as many binders
abbrev pub value_bound : Pool → Value → Solved Term
value_bound p v = record { name = v.solved.name; value = tree p v.solved.value; ty = shift (tree p v.solved.ty) 0 (v.inside - v.ty_inside) }

-- a value inside n binders
abbrev pub value_in : Pool → ℕ → Value → Solved Term
value_in p n v = risen (n - v.inside) (value_bound p v)

-- values that stand outermost first
abbrev pub values_in : Pool → ℕ → List Value → Values
values_in p n vs = map (value_in p n) (reverse vs)

-- its ids stand in the pool, and it was bound inside n binders at most, its type read inside no more than it
pub record IsValue (p : Pool) (n : ℕ) (v : Value) : Type 0 where
  pub value : v.solved.value < length p.trees
  pub ty : v.solved.ty < length p.trees
  pub inside : v.inside ≤ n
  pub ty_inside : v.ty_inside ≤ v.inside

abbrev pub AreValues : Pool → ℕ → List Value → Type 0
AreValues p n vs = AllByRecursion (IsValue p n) vs

-- ---- the writer

abbrev pub signature_of : Writer → Signature Term
signature_of x = signature_in x.pool.now x.signature.now

abbrev pub values_of : Writer → Values
values_of x = values_in x.pool.now x.inside x.values.now.items

-- the tree of an id
abbrev pub term_of : Writer → ℕ → Term
term_of x t = tree x.pool.now t

-- every id of the signature and of the values stands in the pool
pub record IsReady (x : Writer) : Type 0 where
  pub signature : Stands x.pool.now x.signature.now
  pub values : AreValues x.pool.now x.inside x.values.now.items

-- the pool grew, and is the same pool
pub record Grows (x y : Writer) : Type 0 where
  pub same_reference : y.pool.ghost_name ≡ x.pool.ghost_name
  pub extends : Extends x.pool.now y.pool.now

-- what else expressions are read over is the same
pub record Keeps (x y : Writer) : Type 0 where
  pub signature : y.signature.now ≡ x.signature.now
  pub values : y.values.now.items ≡ x.values.now.items
  pub inside : y.inside ≡ x.inside
  pub limits : y.limits ≡ x.limits

-- there are values more, inside binders more
pub record Enters (x y : Writer) : Type 0 where
  pub signature : y.signature.now ≡ x.signature.now
  pub limits : y.limits ≡ x.limits
  pub more : List Value
  pub values : y.values.now.items ≡ x.values.now.items ++ more
  pub ready : IsReady y

-- t is the type a inside one binder more, if a further name has this type
abbrev pub IsFurther : List ResolvedName → Term → Term → Type 0
IsFurther [] a t = Unit {0}
IsFurther (x ∷ xs) a t = t ≡ shift a 0 1

-- the name of the type a is bound; id t is this type inside its binder, if more names of its group follow
pub record IsEntered (x y : Writer) (name a : ℕ) (more : List ResolvedName) (t : ℕ) : Type 0 where
  pub enters : Enters x y
  pub values : values_of y ≡ binding name (term_of x a) (values_of x)
  pub within : t < length y.pool.now.trees
  pub ty : IsFurther more (term_of x a) (term_of y t)

-- over which signature and within which limits a reading comes to something
pub record Over : Type 0 where
  pub signature : Signature Term
  pub fuel : ℕ
  pub depth : ℕ

abbrev pub over : Writer → Over
over x = record { signature = signature_of x; fuel = x.limits.fuel; depth = x.limits.depth }

abbrev pub Read : {A : Type 0} → Over → Asking A → A → Type 0
Read o m r = Comes o.signature o.fuel o.depth m r

-- ---- what head forms show

-- at an implicit function type something would be inserted
abbrev pub inserts : Answer → Bool
inserts (Form (Pi flag.Implicit x a b) []) = true
inserts w = false

-- the level of the sort that it is
abbrev pub level_of : Answer → Option ℕ
level_of (Form (Sort n) []) = Some n
level_of w = None

-- what a lambda or an argument of this flag finds at a head form; f gives the trees of ids, which are below n
abbrev pub IsFit : ℕ → (ℕ → Term) → Flag → Answer → Fit → Type 0
IsFit n f b w (F.Function s t) = (s < n) × (t < n) × ((p : Pos) → function_shown p b w ≡ Gives (f s, f t))
IsFit n f b w F.LeftOut = (p : Pos) → function_shown p b w ≡ Refuses (at p CannotInfer)
IsFit n f b w F.Other = (p : Pos) → function_shown p b w ≡ Refuses (at p (NotAFunction (shown w)))

abbrev pub AnswersShown : Pool → (Outcome Refusal Answer → Type 0) → Result Shown WrittenError → Type 0
AnswersShown p K (Ok s) = AppliedBelow (length p.trees) s.form × K (Gives (answer_in (tree p) s.meta s.form))
AnswersShown p K (Err e) = RefusedBy p (λ r. K (Refuses r)) e

-- the parts of a function type
abbrev pub AnswersParts : Pool → (Outcome Refusal (Term × Term) → Type 0) → Result Parts WrittenError → Type 0
AnswersParts p K (Ok w) = (w.dom < length p.trees) × (w.cod < length p.trees) × K (Gives (tree p w.dom, tree p w.cod))
AnswersParts p K (Err e) = RefusedBy p (λ r. K (Refuses r)) e

-- the answer for a verdict on the type that is found and the wanted one
abbrev pub agreement_by : Pos → V.Conv → Result (Unit {0}) WrittenError
agreement_by p C.Yes = Ok tt
agreement_by p (C.No a b xs) = Err (refused_at p (E.Mismatch a b xs))
agreement_by p C.OutOfFuel = Err (refused_at p E.OutOfFuel)
agreement_by p C.OutOfDepth = Err (refused_at p E.OutOfDepth)
agreement_by p (C.Blocked m) = Err (refused_at p E.CannotInfer)
agreement_by p C.NoMemory = Err W.NoMemory
