-- The unifier as those who split see it: one answer to the equations of a context.
use Rattle.std.specs.Prelude.{◌≡◌, ℕ, List, length}
use Rattle.std.specs.List.{AllByRecursion}
use Rattle.core_rules.specs.Term.{Term, Sort}
use Rattle.core_rules.specs.Signature.{Context, Signature}
use Rattle.core_rules.specs.Unification.{Equation, begin}
use Rattle.core_rules.specs.UnifierAnswers.{Unified, UnifiedBy, NeverUnified, StuckAt, NoFuel, NoDepth, IsUnifier}
use Rattle.core_rules.specs.BoundedLaws.{ExactlyOne}
use Rattle.core_rules.specs.TreeLaws.{IsSound}
use Rattle.unify_rules.specs.Unifier.{Outcome, Solved, Conflict, Cycle, Stuck, OutOfFuel, OutOfDepth, Unify}
use Rattle.unify_rules.specs.Joined.{branch_of}
use Rattle.unify_rules.specs.UnifierLaws.{EquationBelow}

-- what an outcome says, with the branch that its solutions give
abbrev pub unified_of : Context Term → Outcome → Unified
unified_of c (Solved ts ss) = UnifiedBy ss (branch_of c ts ss)
unified_of c (Conflict j k) = NeverUnified
unified_of c (Cycle x) = NeverUnified
unified_of c (Stuck t u) = StuckAt t u
unified_of c OutOfFuel = NoFuel
unified_of c OutOfDepth = NoDepth

-- every variable of the equations is one of the context
abbrev pub EquationsBelow : Context Term → List Equation → Type 0
EquationsBelow c es = AllByRecursion (EquationBelow (length c)) es

-- the answers of the unifier, where no metavariable is solved
pub data UnifiesTo (g : Signature Term) (fuel depth : ℕ) (c : Context Term) (es : List Equation) : Unified → Type 0 where
  in_scope : {o : Outcome} {n : ℕ} {v : Unified} → EquationsBelow c es → Unify g fuel depth (begin c es) o n → v ≡ unified_of c o → UnifiesTo g fuel depth c es v
  -- such terms are none of the context, and no rule applies to them
  out_of_scope : (EquationsBelow c es → ⊥) → UnifiesTo g fuel depth c es (StuckAt (Sort 0) (Sort 0))

-- it is a unifier: what it solves and refutes comes by steps, and its branches join the solutions
abbrev pub AnswersUnify : Type 0
AnswersUnify = (g : Signature Term) (fuel depth : ℕ) → IsSound g → IsUnifier g (UnifiesTo g fuel depth)

-- to all equations in any context there is exactly one answer
abbrev pub ExactlyOneAnswer : Type 0
ExactlyOneAnswer = (g : Signature Term) (fuel depth : ℕ) (c : Context Term) (es : List Equation) → ExactlyOne (UnifiesTo g fuel depth c es)
