-- When an answer in code is what unification of indices answers.
use Rattle.std.specs.Prelude.{◌≡◌, ℕ, ◌<◌, List, [], length, map}
use Rattle.core_rules.specs.Term.{Term}
use Rattle.core_rules.specs.Signature.{Context, Telescope, Branch, onto}
use Rattle.core_rules.specs.Mapped.{telescope_map, branch_map, AllBranch}
use Rattle.core_rules.specs.Unification as U
use Rattle.core_rules.specs.Unification.{eq}
use Rattle.core_rules.specs.UnifierAnswers as T
use Rattle.core_rules.specs.UnifierAnswers.{UnifiedBy, NeverUnified, StuckAt, NoFuel, NoDepth}
use Rattle.unify_rules.specs.Answered.{unified_of}
use Rattle.unify_rules.specs.Unifier as O
use Rattle.unify_rules.specs.Unifier.{Outcome}
use Rattle.unify_rules.specs.Joined.{branch_of}
use Rattle.term_pool.specs.Pool.{Pool, tree}
use Rattle.index_unify.specs.declared.equation.Equation.{Equation}
use Rattle.index_unify.specs.declared.unified.Reason.{Reason}
use Rattle.index_unify.specs.declared.unified.Reason.TheVariants.{Conflict, Cycle}
use Rattle.index_unify.specs.declared.unified.Unified as N
use Rattle.index_unify.specs.declared.unified.Unified.TheVariants.{Solved, Refuted, Stuck, OutOfFuel, OutOfDepth, NoMemory}

abbrev pub equation_in : (ℕ → Term) → Equation → U.Equation
equation_in f e = eq (f e.left) (f e.right)

abbrev pub EquationStands : ℕ → Equation → Type 0
EquationStands n e = (e.left < n) × (e.right < n)

-- a telescope of ids as the context that it is
abbrev pub context_in : Pool → Telescope ℕ → Context Term
context_in p c = onto (telescope_map (tree p) c) []

abbrev pub equations_in : Pool → List Equation → List U.Equation
equations_in p es = map (equation_in (tree p)) es

-- V holds of a solution whose branch, in the context c, is the branch b of ids
pub record IsSolved (V : Outcome → Type 0) (p : Pool) (c : Context Term) (b : Branch ℕ) : Type 0 where
  pub types : List Term
  pub solutions : List U.Solution
  pub is : V (O.Solved types solutions)
  pub stands : AllBranch (λ i. i < length p.trees) b
  pub branch : branch_map (tree p) b ≡ branch_of c types solutions

-- V holds of the two head forms with these ids, which stand in the pool
pub record IsStuck (V : Outcome → Type 0) (p : Pool) (t u : ℕ) : Type 0 where
  pub left : t < length p.trees
  pub right : u < length p.trees
  pub is : V (O.Stuck (tree p t) (tree p u))

abbrev pub IsRefuted : (Outcome → Type 0) → Reason → Type 0
IsRefuted V (Conflict j k) = V (O.Conflict j k)
IsRefuted V (Cycle x) = V (O.Cycle x)

-- V holds of the outcome that an answer gives, if it gives one
abbrev pub IsUnified : (Outcome → Type 0) → Pool → Context Term → N.Unified → Type 0
IsUnified V p c (Solved b) = IsSolved V p c b
IsUnified V p c (Refuted r) = IsRefuted V r
IsUnified V p c (Stuck t u) = IsStuck V p t u
IsUnified V p c OutOfFuel = V O.OutOfFuel
IsUnified V p c OutOfDepth = V O.OutOfDepth
IsUnified V p c NoMemory = Unit {0}

-- v is what those who split in the context c are answered by an outcome of which V holds
abbrev pub ByOutcome : (Outcome → Type 0) → Context Term → T.Unified → Type 0
ByOutcome V c v = (o : Outcome) × V o × (v ≡ unified_of c o)

-- W holds of what an answer says to those who split, if it says something
abbrev pub IsAnswered : (T.Unified → Type 0) → Pool → N.Unified → Type 0
IsAnswered W p (Solved b) = (ss : List U.Solution) × W (UnifiedBy ss (branch_map (tree p) b))
IsAnswered W p (Refuted r) = W NeverUnified
IsAnswered W p (Stuck t u) = W (StuckAt (tree p t) (tree p u))
IsAnswered W p OutOfFuel = W NoFuel
IsAnswered W p OutOfDepth = W NoDepth
IsAnswered W p NoMemory = Unit {0}
