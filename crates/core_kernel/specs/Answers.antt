-- What an answer in code is to the kernel's reading, over a pool. Nothing is said of an answer for want of memory.
use Rattle.std.specs.Prelude.{ℕ, ◌<◌, ◌≢◌, length, Result, Ok, Err}
use Rattle.core_rules.specs.Term.{Term}
use Rattle.term_pool.specs.Pool.{Pool, tree}
use Rattle.core_kernel.specs.declared.error.KernelError.{KernelError}
use Rattle.core_kernel.specs.declared.error.KernelError.TheVariants as E
use Rattle.core_kernel.specs.declared.error.FamilyError.{FamilyError}
use Rattle.core_kernel.specs.declared.error.FamilyError.TheVariants as F
use Rattle.kernel_rules.specs.Outcome.{Outcome, Gives, Refuses}
use Rattle.kernel_rules.specs.Refusals.{Refusal, Mismatch, NotAFunction, NotARecord, NotAType, LevelTooLarge, MetaLeft, OutOfFuel, OutOfDepth, DeclRefusal, OfKernel, ConShape, TooBig}

-- K holds of the refusal that an error is; its ids stand in the pool
abbrev pub RefusedBy : Pool → (Refusal → Type 0) → KernelError → Type 0
RefusedBy p K (E.Mismatch a b) = (a < length p.trees) × (b < length p.trees) × K (Mismatch (tree p a) (tree p b))
RefusedBy p K (E.NotAFunction a) = (a < length p.trees) × K (NotAFunction (tree p a))
RefusedBy p K (E.NotARecord a) = (a < length p.trees) × K (NotARecord (tree p a))
RefusedBy p K (E.NotAType a) = (a < length p.trees) × K (NotAType (tree p a))
RefusedBy p K E.LevelTooLarge = K LevelTooLarge
RefusedBy p K (E.MetaLeft m) = K (MetaLeft m)
RefusedBy p K E.OutOfFuel = K OutOfFuel
RefusedBy p K E.OutOfDepth = K OutOfDepth
RefusedBy p K E.NoMemory = Unit {0}

-- K holds of the outcome: a value that is what it is
abbrev pub Answers : {A : Type 0} → Pool → (Outcome Refusal A → Type 0) → Result A KernelError → Type 0
Answers p K (Ok a) = K (Gives a)
Answers p K (Err e) = RefusedBy p (λ r. K (Refuses r)) e

-- the term of an id
abbrev pub AnswersTerm : Pool → (Outcome Refusal Term → Type 0) → Result ℕ KernelError → Type 0
AnswersTerm p K (Ok t) = (t < length p.trees) × K (Gives (tree p t))
AnswersTerm p K (Err e) = RefusedBy p (λ r. K (Refuses r)) e

-- the refusal of a term as that of its family
abbrev pub in_family : KernelError → FamilyError
in_family (E.Mismatch a b) = F.Kernel (E.Mismatch a b)
in_family (E.NotAFunction a) = F.Kernel (E.NotAFunction a)
in_family (E.NotARecord a) = F.Kernel (E.NotARecord a)
in_family (E.NotAType a) = F.Kernel (E.NotAType a)
in_family E.LevelTooLarge = F.Kernel E.LevelTooLarge
in_family (E.MetaLeft m) = F.Kernel (E.MetaLeft m)
in_family E.OutOfFuel = F.Kernel E.OutOfFuel
in_family E.OutOfDepth = F.Kernel E.OutOfDepth
in_family E.NoMemory = F.NoMemory

-- K holds of the outcome of a family's part
abbrev pub AnswersFamily : Pool → (Outcome DeclRefusal (Unit {0}) → Type 0) → Result (Unit {0}) FamilyError → Type 0
AnswersFamily p K (Ok o) = K (Gives tt)
AnswersFamily p K (Err (F.Kernel e)) = (e ≢ E.NoMemory) × RefusedBy p (λ r. K (Refuses (OfKernel r))) e
AnswersFamily p K (Err F.ConShape) = K (Refuses ConShape)
AnswersFamily p K (Err F.TooBig) = K (Refuses TooBig)
AnswersFamily p K (Err F.NoMemory) = Unit {0}
