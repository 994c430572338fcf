-- What the unifier says of equations, and what it is to a left side, in code.
use Rattle.std.specs.Prelude.{◌≡◌, ℕ, ◌<◌, ◌+◌, ◌-◌, ◌∷◌, List, length, map, take, drop}
use Rattle.core_rules.specs.Term.{Term}
use Rattle.core_rules.specs.Signature.{Entry, Branch, Context, onto}
use Rattle.core_rules.specs.Mapped.{branch_map, telescope_map}
use Rattle.core_rules.specs.TypedTree.{Splitting}
use Rattle.core_rules.specs.UnifierAnswers as T
use Rattle.core_rules.specs.Unification.{Equation}
use Rattle.term_pool.specs.Pool.{Pool, tree}
use Rattle.index_unify.specs.Unified.{context_in}
use Rattle.index_unify.specs.declared.unified.Unified as N
use Rattle.index_unify.specs.declared.unified.Unified.TheVariants.{Solved, Refuted, Stuck, OutOfFuel, OutOfDepth, NoMemory}
use Rattle.lhs_rules.specs.Patterns.{AnswersWith}
use Rattle.lhs_elab.specs.declared.asking.Opened.{Opened}
use Rattle.lhs_elab.specs.declared.families.AtFamily.{AtFamily}
use Rattle.lhs_elab.specs.Branches.{IsBranch}
use Rattle.lhs_elab.specs.Elaborator.{Over}

-- the unifier's answers to equations in a context
abbrev pub Unifies : Over → Context Term → List Equation → T.Unified → Type 0
Unifies o c es v = AnswersWith o.signature o.full o.fuel o.depth c es v

-- the ids of an answer are below n, and its branch has a value for each of m variables
abbrev pub UnifiedBelow : ℕ → ℕ → N.Unified → Type 0
UnifiedBelow n m (Solved b) = IsBranch n m b
UnifiedBelow n m (Stuck t u) = (t < n) × (u < n)
UnifiedBelow n m (Refuted r) = Unit {0}
UnifiedBelow n m OutOfFuel = Unit {0}
UnifiedBelow n m OutOfDepth = Unit {0}
UnifiedBelow n m NoMemory = Unit {0}

-- P holds of the branch
abbrev pub IsOpened : Pool → Opened → (Branch Term → Type 0) → Type 0
IsOpened p o P = P (branch_map (tree p) o.branch)

-- nothing is given
abbrev pub IsNothing : Unit {0} → (Unit {0} → Type 0) → Type 0
IsNothing a P = P tt

-- s is a split of the variable outside which so many of these entries stand, or of a new one inside them, whose type is the family a
pub record IsSplit (p : Pool) (es : List (Entry ℕ)) (level : ℕ) (a : AtFamily) (s : Splitting) : Type 0 where
  pub entry : Entry Term
  pub context : s.context ≡ onto (telescope_map (tree p) (drop (level + 1) es)) (entry ∷ context_in p (take level es))
  pub var : s.var ≡ length es - (level + 1)
  pub params : s.params ≡ take a.params (map (tree p) a.args.items)
  pub indices : s.indices ≡ drop a.params (map (tree p) a.args.items)
