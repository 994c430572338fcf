-- What answers on the branch of a split are to the rules.
use Rattle.std.specs.Prelude.{ℕ, ◌<◌, List, [], length, Result, Ok, Err}
use Rattle.std.specs.declared.vec.Vec.{Vec}
use Rattle.std.specs.declared.alloc.Global.{Global}
use Rattle.core_rules.specs.Term.{Term}
use Rattle.core_rules.specs.Signature.{Branch, Context, Signature, onto}
use Rattle.core_rules.specs.Mapped.{branch_map, AllBranch}
use Rattle.core_rules.specs.Unification.{Equation, Solution}
use Rattle.core_rules.specs.UnifierAnswers as T
use Rattle.core_rules.specs.UnifierAnswers.{UnifiedBy, NeverUnified, StuckAt, NoFuel, NoDepth}
use Rattle.term_pool.specs.Pool.{Pool, tree}
use Rattle.index_unify.specs.declared.unified.Unified as N
use Rattle.index_unify.specs.declared.unified.Unified.TheVariants.{Solved, Refuted, Stuck, OutOfFuel, OutOfDepth, NoMemory}
use Rattle.kernel_rules.specs.Outcome.{Outcome, Gives, Refuses, Then}
use Rattle.kernel_rules.specs.Refusals.{Refusal, DeclRefusal, AfterTerms}
use Rattle.kernel_rules.specs.FamilyReading.{LevelsOf}
use Rattle.kernel_rules.specs.TreeReading.{IsItsBranch, Unifies, ValuesOf, branch_by}
use Rattle.core_kernel.specs.Answers.{RefusedBy}
use Rattle.core_kernel.specs.declared.error.KernelError.{KernelError}
use Rattle.tree_kernel.specs.Answers.{RefusedDecl}
use Rattle.tree_kernel.specs.Reading.{UnifiesAs}
use Rattle.tree_kernel.specs.Stand.{Stand}
use Rattle.tree_kernel.specs.declared.error.DeclError.{DeclError}

-- W holds of what an answer says to those who split, if it says something; its ids stand in the pool
abbrev pub SaysUnified : Pool → (T.Unified → Type 0) → N.Unified → Type 0
SaysUnified p W (Solved b) = AllBranch (λ i. i < length p.trees) b × ((ss : List Solution) × W (UnifiedBy ss (branch_map (tree p) b)))
SaysUnified p W (Refuted r) = W NeverUnified
SaysUnified p W (Stuck t u) = W (StuckAt (tree p t) (tree p u))
SaysUnified p W OutOfFuel = W NoFuel
SaysUnified p W OutOfDepth = W NoDepth
SaysUnified p W NoMemory = Unit {0}

-- K holds of the branch
abbrev pub AnswersBranch : Pool → (Outcome DeclRefusal (Branch Term) → Type 0) → Result (Branch ℕ) DeclError → Type 0
AnswersBranch p K (Ok b) = AllBranch (λ i. i < length p.trees) b × K (Gives (branch_map (tree p) b))
AnswersBranch p K (Err e) = RefusedDecl p (λ r. K (Refuses r)) e

-- K holds of some levels
abbrev pub AnswersLevels : Pool → (Outcome Refusal (List ℕ) → Type 0) → Result (Unit {0}) KernelError → Type 0
AnswersLevels p K (Ok o) = (ns : List ℕ) × K (Gives ns)
AnswersLevels p K (Err e) = RefusedBy p (λ r. K (Refuses r)) e

-- K holds of the acceptance, and the ids stand for the terms
abbrev pub AnswersEnv : Pool → (Outcome DeclRefusal (Unit {0}) → Type 0) → List Term → Result (Vec ℕ Global) DeclError → Type 0
AnswersEnv p K ts (Ok v) = Stand p v.items ts × K (Gives tt)
AnswersEnv p K ts (Err e) = RefusedDecl p (λ r. K (Refuses r)) e

-- the first half of a branch: it is the one that unification gives
abbrev pub ItsBranch : Signature Term → ℕ → ℕ → Context Term → List Equation → Branch Term → Outcome DeclRefusal (Unit {0}) → Type 0
ItsBranch g fuel depth c es b = Then (Unifies g fuel depth (UnifiesAs g fuel depth) branch_by c es) (λ b'. IsItsBranch b b')

-- the second half: each entry of its context is a type, and its values have the types of c
abbrev pub Fits : Signature Term → ℕ → ℕ → Context Term → Branch Term → Outcome DeclRefusal (Unit {0}) → Type 0
Fits g fuel depth c b = AfterTerms (LevelsOf g fuel depth [] b.context) (λ ns. ValuesOf g fuel depth (onto b.context []) b.values c)
