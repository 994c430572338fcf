-- The statements of the laws of the unifier.
use Rattle.std.specs.Prelude.{◌≡◌, ℕ, ◌+◌, ◌<◌, true, List, [], ◌∷◌, length, map, slice_get, Some, None}
use Rattle.std.specs.List.{AllByRecursion}
use Rattle.core_rules.specs.Term.{Term, occurs}
use Rattle.core_rules.specs.Substitution.{shift, under, replace, value_at}
use Rattle.core_rules.specs.Signature.{Entry, Context, onto, Signature}
use Rattle.core_rules.specs.Mapped.{telescope_map, signature_map}
use Rattle.core_rules.specs.InScope.{SignatureInScope, any_meta, VarsBelow, IsAcyclic}
use Rattle.core_rules.specs.Heads.{Solutions, Answer, Within, HeadOf}
use Rattle.core_rules.specs.Bounded.{Verdict, AreSame, ConvOf}
use Rattle.core_rules.specs.BoundedLaws.{IsFull, shown, replace_verdict}
use Rattle.core_rules.specs.TreeLaws.{HasTypedTrees}
use Rattle.core_rules.specs.Unification.{Equation, eq, Solution, State, St, whole_types, begin, Steps, Solves, HasClash, Refutes, Joins}
use Rattle.unify_rules.specs.Unifier.{Outcome, Solved, Conflict, Cycle, Stuck, OutOfFuel, OutOfDepth, Rule, Ruled, Goes, after, Turn, Unify, UnifyOf}
use Rattle.unify_rules.specs.Joined.{value_of, place_in, branch_of}

-- a state has one answer, after one number of turns
abbrev pub OneOutcome : Type 0
OneOutcome = (g : Signature Term) (fuel depth : ℕ) (s : State) (o p : Outcome) (n m : ℕ) → Unify g fuel depth s o n → Unify g fuel depth s p m → (o ≡ p) × (n ≡ m)

-- each state has an answer
abbrev pub OutcomeStands : Type 0
OutcomeStands = (g : Signature Term) (fuel depth : ℕ) (s : State) → (o : Outcome) × (n : ℕ) × Unify g fuel depth s o n

-- steps lead from the state to a clash
pub record Clashes (g : Signature Term) (s : State) : Type 0 where
  pub types : List Term
  pub equations : List Equation
  pub solved : List Solution
  pub steps : Steps g s (St types equations solved)
  pub clash : HasClash equations

-- what an answer says by steps of unification
abbrev pub Says : Signature Term → State → Outcome → Type 0
Says g s (Solved ts ss) = Steps g s (St ts [] ss)
Says g s (Conflict j k) = Clashes g s
Says g s (Cycle x) = Clashes g s
Says g s (Stuck t u) = Unit {0}
Says g s OutOfFuel = Unit {0}
Says g s OutOfDepth = Unit {0}

-- in a signature in scope with typed trees each answer comes by steps
abbrev pub OutcomeBySteps : Type 0
OutcomeBySteps = (g : Signature Term) (fuel depth : ℕ) (s : State) (o : Outcome) (n : ℕ) → SignatureInScope g any_meta → HasTypedTrees g → Unify g fuel depth s o n → Says g s o

abbrev pub SolvedSolves : Type 0
SolvedSolves = (g : Signature Term) (fuel depth n : ℕ) (c : Context Term) (es : List Equation) (ts : List Term) (ss : List Solution) → SignatureInScope g any_meta → HasTypedTrees g → Unify g fuel depth (begin c es) (Solved ts ss) n → Solves g c es ss

abbrev pub ConflictRefutes : Type 0
ConflictRefutes = (g : Signature Term) (fuel depth n : ℕ) (c : Context Term) (es : List Equation) (j k : ℕ) → SignatureInScope g any_meta → HasTypedTrees g → Unify g fuel depth (begin c es) (Conflict j k) n → Refutes g c es

abbrev pub CycleRefutes : Type 0
CycleRefutes = (g : Signature Term) (fuel depth n : ℕ) (c : Context Term) (es : List Equation) (x : ℕ) → SignatureInScope g any_meta → HasTypedTrees g → Unify g fuel depth (begin c es) (Cycle x) n → Refutes g c es

-- the two sides are in scope among n variables
abbrev pub EquationBelow : ℕ → Equation → Type 0
EquationBelow n e = VarsBelow n e.left × VarsBelow n e.right

-- the branch of the solutions joins them, for any equations
abbrev pub SolvedJoins : Type 0
SolvedJoins = (g : Signature Term) (fuel depth n : ℕ) (c : Context Term) (es : List Equation) (ts : List Term) (ss : List Solution) → AllByRecursion (EquationBelow (length c)) es → Unify g fuel depth (begin c es) (Solved ts ss) n
    → Joins c ss (onto (branch_of c ts ss).context []) (branch_of c ts ss).values (branch_of c ts ss).keep

-- the same with solutions of metavariables, which are replaced everywhere
abbrev pub OutcomeWithSolutions : Type 0
OutcomeWithSolutions = (g : Signature Term) (f : Solutions) (fuel depth : ℕ) (c : Context Term) (es : List Equation) (o : Outcome) → SignatureInScope g any_meta → HasTypedTrees g → UnifyOf g f fuel depth c es o
    → Says (signature_map (replace f) g) (begin (telescope_map (replace f) c) (map (λ e. eq (replace f e.left) (replace f e.right)) es)) o

-- each entry of the branch stands inside the unsolved variables that occur in its type
abbrev pub BranchInOrder : Type 0
BranchInOrder = (g : Signature Term) (fuel depth n : ℕ) (c : Context Term) (es : List Equation) (ts : List Term) (ss : List Solution) → Unify g fuel depth (begin c es) (Solved ts ss) n
    → (j k i : ℕ) → slice_get (branch_of c ts ss).keep j ≡ Some k → i < length c → value_of ss i ≡ None → occurs i (value_at ts k) ≡ true → j < place_in (branch_of c ts ss).keep i

-- each entry of the context is in scope of those outside it
abbrev pub ContextBelow : Context Term → Type 0
ContextBelow [] = Unit {0}
ContextBelow (e ∷ c) = VarsBelow (length c) e.ty × ContextBelow c

-- each entry of the branch is in scope of those outside it, and is the type of its variable under the branch's values
abbrev pub BranchTypes : Type 0
BranchTypes = (g : Signature Term) (fuel depth n : ℕ) (c : Context Term) (es : List Equation) (ts : List Term) (ss : List Solution) → ContextBelow c → AllByRecursion (EquationBelow (length c)) es → Unify g fuel depth (begin c es) (Solved ts ss) n
    → ContextBelow (onto (branch_of c ts ss).context [])
    × ((j k : ℕ) (e : Entry Term) → slice_get (branch_of c ts ss).keep j ≡ Some k → slice_get (onto (branch_of c ts ss).context []) j ≡ Some e
    → shift e.ty 0 (j + 1) ≡ under (branch_of c ts ss).values (value_at (whole_types 0 c) k))

-- a turn with solutions: the head forms and the verdict are taken with them, and then they are replaced
abbrev pub TurnWithSolutions : Type 0
TurnWithSolutions = (g : Signature Term) (s f : Solutions) (fuel depth : ℕ) (ts : List Term) (t u : Term) (es : List Equation) (ss : List Solution) (v w : Answer) (n m : ℕ) (q : Verdict) (r : Rule) → IsFull s f → IsAcyclic s
    → HeadOf g s t fuel (Within v n) → HeadOf g s u fuel (Within w m) → ConvOf g s fuel depth t u q → Ruled ts (replace f (shown v)) (replace f (shown w)) (replace_verdict f q) r
    → Turn (signature_map (replace f) g) fuel depth (St ts (eq (replace f t) (replace f u) ∷ es) ss) (after r ts es ss)

-- there is a measure that each turn which goes on makes fall
abbrev pub TurnsFall : Type 0
TurnsFall = (g : Signature Term) (fuel depth : ℕ) → (m : State → ℕ) × ((s s' : State) → Turn g fuel depth s (Goes s') → m s' < m s)

-- terms that are the same have head forms that are the same, and where these are not the same, the verdict on two terms is that on their
-- head forms. Where only the head forms are the same, these are a yes to a depth of one, at which the terms may be out of depth or blocked
abbrev pub VerdictOfHeadForms : Type 0
VerdictOfHeadForms = (g : Signature Term) (s : Solutions) (fuel depth : ℕ) (t u : Term) (v w : Answer) (n m : ℕ) (q : Verdict) → HeadOf g s t fuel (Within v n) → HeadOf g s u fuel (Within w m)
    → (AreSame s t u → AreSame s (shown v) (shown w)) × ((AreSame s (shown v) (shown w) → ⊥) → (ConvOf g s fuel depth t u q → ConvOf g s fuel depth (shown v) (shown w) q) × (ConvOf g s fuel depth (shown v) (shown w) q → ConvOf g s fuel depth t u q))
