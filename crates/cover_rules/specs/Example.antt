-- Functions with their clauses and the trees that they have, or why they have none.
use Rattle.std.specs.Prelude.{true, [], ◌∷◌, length, reverse, Some}
use Rattle.core_rules.specs.declared.Flag.TheVariants.{Explicit}
use Rattle.core_rules.specs.Term.{Term, Var, App, Con, Pi, End}
use Rattle.core_rules.specs.Signature.{Written, Variable, Without, Pat, VarPat, ConPat, NoPat, AndPat, CheckedLeft, Family, Open, Signature, numbers}
use Rattle.core_rules.specs.Typing.{entry}
use Rattle.core_rules.specs.Examples.{nat}
use Rattle.core_rules.specs.Addition.{nat_type}
use Rattle.core_rules.specs.VectorHead.{at_cons, first_type, first_tree, vectors}
use Rattle.core_rules.specs.TypedTree.{vars}
use Rattle.core_rules.specs.BoundedLaws.{no_solutions}
use Rattle.match_rules.specs.Matching.{OfCon, NoShape, AndShape, Clause, clause_of}
use Rattle.match_rules.specs.VectorClauses.{first_clause}
use Rattle.cover_rules.specs.LeftSide.{root}
use Rattle.core_rules.specs.UnifierAnswers.{Unified, UnifiedBy, NeverUnified, StuckAt, Answers, answers}
use Rattle.cover_rules.specs.CoverOf.{Done, Failed, Missing, CoverOf}

-- without equations there is nothing to solve
abbrev pub no_equations : Answers
no_equations c [] = UnifiedBy [] (record { context = reverse c; values = vars 0 (length c); keep = numbers 0 (length c) })
no_equations c (e ∷ es) = StuckAt e.left e.right

-- A function of a number by one clause, for zero: covering misses the successor
abbrev pub one_function : Signature Term
one_function = Family nat ∷ Open 3 (Pi Explicit 0 nat_type nat_type) ∷ []

abbrev pub zero_alone : Clause
zero_alone = record { shapes = AndShape (OfCon 0 NoShape) NoShape; size = 0; right = Some (Con 0 End) }

-- f (suc n)
abbrev pub missed_successor : CheckedLeft Term
missed_successor = record {
  context = entry Explicit 3 nat_type ∷ [];
  pats = AndPat (Pat (ConPat 1 (AndPat (Pat (VarPat 0) (Variable 3 true) Without) NoPat)) Written Without) NoPat;
  ty = nat_type;
  named = [];
  dots = [];
  inserted = 0;
}

abbrev pub SuccessorMissed : Type 0
SuccessorMissed = CoverOf one_function no_solutions 0 (answers no_equations) 0 (zero_alone ∷ []) (root (Pi Explicit 0 nat_type nat_type)) (Failed (Missing missed_successor))

-- The first item of a vector that has one, by one clause: the split at the vector solves the index equation of cons and refutes that of nil

-- the answers to the two equations that are asked: zero = suc n for nil, and suc m = suc n for cons
abbrev pub first_by_index : Term → Unified
first_by_index (App b t u) = UnifiedBy (record { var = 2; value = Var 3 } ∷ []) at_cons
first_by_index t = NeverUnified

abbrev pub first_answers : Answers
first_answers c [] = NeverUnified
first_answers c (e ∷ es) = first_by_index e.left

abbrev pub FirstCovered : Type 0
FirstCovered = CoverOf vectors no_solutions 0 (answers first_answers) 0 (clause_of vectors first_clause ∷ []) (root first_type) (Done first_tree)
