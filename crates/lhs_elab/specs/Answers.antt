-- What an answer in code is to the reading of a left side, over a pool. Nothing is said of out of memory.
use Rattle.std.specs.Prelude.{ℕ, ◌<◌, length, Result, Ok, Err}
use Rattle.core_rules.specs.Heads.{Answer}
use Rattle.core_rules.specs.Mapped.{AllEntries, AllLeft, left_map}
use Rattle.core_rules.specs.Term.{Term}
use Rattle.core_rules.specs.Signature.{CheckedLeft}
use Rattle.term_pool.specs.Pool.{Pool, tree}
use Rattle.index_unify.specs.Unified.{context_in}
use Rattle.weak_head.specs.States.{AppliedBelow, answer_in}
use Rattle.kernel_rules.specs.Outcome.{Outcome, Gives, Refuses}
use Rattle.lhs_rules.specs.Refusals.{Refusal, Kind, CannotSplit, UnifyStuck, NotAbsurd, WrongArity, NoSuchName, ForcedConstructor, Impossible, OutOfFuel, OutOfDepth, at}
use Rattle.lhs_elab.specs.declared.error.LhsError.{LhsError}
use Rattle.lhs_elab.specs.declared.error.LhsError.TheVariants as E
use Rattle.lhs_elab.specs.declared.error.LhsKind.{LhsKind}
use Rattle.lhs_elab.specs.declared.error.LhsKind.TheVariants as K
use Rattle.lhs_elab.specs.declared.elaborator.Shown.{Shown}

-- P holds of the kind that an error has; its ids stand in the pool
abbrev pub IsKind : Pool → (Kind → Type 0) → LhsKind → Type 0
IsKind p P K.CannotSplit = P CannotSplit
IsKind p P (K.UnifyStuck c t u) = AllEntries (λ i. i < length p.trees) c × (t < length p.trees) × (u < length p.trees) × P (UnifyStuck (context_in p c) (tree p t) (tree p u))
IsKind p P K.NotAbsurd = P NotAbsurd
IsKind p P K.WrongArity = P WrongArity
IsKind p P K.NoSuchName = P NoSuchName
IsKind p P K.ForcedConstructor = P ForcedConstructor
IsKind p P K.Impossible = P Impossible
IsKind p P K.OutOfFuel = P OutOfFuel
IsKind p P K.OutOfDepth = P OutOfDepth

-- P holds of the refusal that an error is
abbrev pub RefusedBy : Pool → (Refusal → Type 0) → LhsError → Type 0
RefusedBy p P (E.Bad q k) = IsKind p (λ i. P (at q i)) k
RefusedBy p P E.NoMemory = Unit {0}

-- P holds of the outcome, where A says it of what is given
abbrev pub Answers : {A B : Type 0} → (A → (B → Type 0) → Type 0) → Pool → (Outcome Refusal B → Type 0) → Result A LhsError → Type 0
Answers G p P (Ok a) = G a (λ b. P (Gives b))
Answers G p P (Err e) = RefusedBy p (λ r. P (Refuses r)) e

-- P holds of what is shown
abbrev pub IsShown : Pool → Shown → (Answer → Type 0) → Type 0
IsShown p x P = AppliedBelow (length p.trees) x.form × P (answer_in (tree p) x.meta x.form)

-- P holds of the checked left side, whose ids stand in the pool
abbrev pub IsCheckedLeft : Pool → CheckedLeft ℕ → (CheckedLeft Term → Type 0) → Type 0
IsCheckedLeft p l P = AllLeft (λ i. i < length p.trees) l × P (left_map (tree p) l)
