-- Unifications worked by hand: each rule, at the two constructors of vectors among others, and one that changes the order of the context.
use Rattle.std.specs.Prelude.{◌≡◌, List, [], ◌∷◌}
use Rattle.core_rules.specs.declared.Flag.TheVariants.{Explicit, Implicit}
use Rattle.core_rules.specs.Term.{Term, Var, Sort, Lam, App, Con, End}
use Rattle.core_rules.specs.Signature.{Context, Branch}
use Rattle.core_rules.specs.Typing.{entry}
use Rattle.core_rules.specs.Addition.{nat_type, zero_term, suc_term}
use Rattle.core_rules.specs.VectorHead.{vector, at_cons, vectors}
use Rattle.core_rules.specs.Unification.{eq, Solution, begin}
use Rattle.unify_rules.specs.Unifier.{Solved, Conflict, Cycle, Stuck, OutOfFuel, OutOfDepth, Unify}
use Rattle.unify_rules.specs.Joined.{branch_of}

-- n, and the arguments m, x and xs of cons
abbrev pub cons_arguments : Context Term
cons_arguments = entry Explicit 9 (vector (Var 1)) ∷ entry Explicit 8 nat_type ∷ entry Implicit 7 nat_type ∷ entry Explicit 0 nat_type ∷ []

-- suc m = suc n is solved in two turns to a depth of one, and gives the branch of the tree of the first item
abbrev pub ConsSolved : Type 0
ConsSolved = (ts : List Term) × (ss : List Solution) × Unify vectors 0 2 (begin cons_arguments (eq (suc_term (Var 2)) (suc_term (Var 3)) ∷ [])) (Solved ts ss) 2 × (branch_of cons_arguments ts ss ≡ at_cons)

-- zero = suc n is a conflict at once
abbrev pub NilRefuted : Type 0
NilRefuted = Unify vectors 0 1 (begin (entry Explicit 0 nat_type ∷ []) (eq (Con 0 End) (suc_term (Var 0)) ∷ [])) (Conflict 0 1) 0

-- n = suc n is a cycle at once
abbrev pub CycleRefuted : Type 0
CycleRefuted = Unify vectors 0 1 (begin (entry Explicit 0 nat_type ∷ []) (eq (Var 0) (suc_term (Var 0)) ∷ [])) (Cycle 0) 0

-- a, v of length a, and b
abbrev pub three : Context Term
three = entry Explicit 5 nat_type ∷ entry Explicit 4 (vector (Var 0)) ∷ entry Explicit 3 nat_type ∷ []

-- b, and v of length suc b
abbrev pub b_first : Branch Term
b_first = record {
  context = entry Explicit 5 nat_type ∷ entry Explicit 4 (vector (suc_term (Var 0))) ∷ [];
  values = Var 1 ∷ Var 0 ∷ suc_term (Var 1) ∷ [];
  keep = 1 ∷ 0 ∷ [];
}

-- a = suc b solves a, after which v depends on b, so that b comes first
abbrev pub OrderChanged : Type 0
OrderChanged = (ts : List Term) × (ss : List Solution) × Unify vectors 0 1 (begin three (eq (Var 2) (suc_term (Var 0)) ∷ [])) (Solved ts ss) 1 × (branch_of three ts ss ≡ b_first)

-- one number n, and two numbers, the later one innermost
abbrev pub one : Context Term
one = entry Explicit 0 nat_type ∷ []

abbrev pub two : Context Term
two = entry Explicit 1 nat_type ∷ entry Explicit 0 nat_type ∷ []

-- n = n is deleted, and nothing is solved
abbrev pub VariableDeleted : Type 0
VariableDeleted = (ts : List Term) × Unify vectors 0 1 (begin one (eq (Var 0) (Var 0) ∷ [])) (Solved ts []) 1

-- of two variables the later one is solved, also where it stands on the right
abbrev pub LaterSolved : Type 0
LaterSolved = (ts : List Term) × Unify vectors 0 1 (begin two (eq (Var 1) (Var 0) ∷ [])) (Solved ts (record { var = 0; value = Var 1 } ∷ [])) 1

-- after a = suc b the type of v depends on b, so that v = b solves v, which is the earlier one
abbrev pub EarlierSolved : Type 0
EarlierSolved = (ts : List Term) × Unify vectors 0 1 (begin three (eq (Var 2) (suc_term (Var 0)) ∷ eq (Var 1) (Var 0) ∷ []))
    (Solved ts (record { var = 1; value = Var 0 } ∷ record { var = 2; value = suc_term (Var 0) } ∷ [])) 2

-- a sort and a family: no rule applies
abbrev pub SortStuck : Type 0
SortStuck = Unify vectors 0 1 (begin [] (eq (Sort 0) nat_type ∷ [])) (Stuck (Sort 0) nat_type) 0

-- a call at depth zero is out of depth
abbrev pub DepthNeeded : Type 0
DepthNeeded = Unify vectors 0 0 (begin [] (eq zero_term zero_term ∷ [])) OutOfDepth 0

-- the head form of a redex needs a step
abbrev pub FuelNeeded : Type 0
FuelNeeded = Unify vectors 0 1 (begin [] (eq (App Explicit (Lam Explicit 0 nat_type (Var 0)) zero_term) zero_term ∷ [])) OutOfFuel 0
