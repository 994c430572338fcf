-- The statement of first match: where a tree follows its clauses, each clause holds.
use Rattle.std.specs.Prelude.{◌≡◌, ◌≢◌, ◌↔◌, ℕ, List, [], ◌∷◌, map, Some}
use Rattle.core_rules.specs.declared.Flag.TheVariants.{Explicit, Implicit}
use Rattle.core_rules.specs.Term.{Term, Terms, App, Con, Def, Proj, End, IsSameTerm}
use Rattle.core_rules.specs.Signature.{Signature, Tree, CoreClause, Function, def_decl}
use Rattle.core_rules.specs.InScope.{SignatureInScope, ClausesInScope, any_meta}
use Rattle.core_rules.specs.TreeLaws.{HasTypedTrees}
use Rattle.core_rules.specs.Derivable.{Derivable}
use Rattle.core_rules.specs.Elimination.{Elim, Arg, Field}
use Rattle.match_rules.specs.Matching.{Shapes, Clause, Bound, Front, Apart, FirstMatch, Fits, clause_of, ClauseHolds}
use Rattle.match_rules.specs.Covering.{Covers}
use Rattle.core_rules.specs.Conversion.{Conv}
use Rattle.core_rules.specs.Addition.{suc_term, plus_term}
use Rattle.core_rules.specs.VectorHead.{first_tree}
use Rattle.core_rules.specs.TreeExamples.{cons_term, swap_term, turn_tree}
use Rattle.core_rules.specs.Examples.{pair_of}
use Rattle.match_rules.specs.AdditionClauses.{plus_covered, addition_by_clauses}
use Rattle.match_rules.specs.VectorClauses.{first_by_clauses}
use Rattle.match_rules.specs.PairClauses.{swap_by_clauses}

-- the tree of f follows its clauses, from no eliminations on
abbrev pub IsCovered : Signature Term → ℕ → Type 0
IsCovered g f = (x : ℕ) (a : Term) (qs : List (CoreClause Term)) (T : Tree Term) → def_decl g f ≡ Some (Function x a qs T) → Covers g (map (clause_of g) qs) 0 [] T

abbrev pub CoveredClausesHold : Type 0
CoveredClausesHold = (g : Signature Term) → SignatureInScope g any_meta → HasTypedTrees g → (f : ℕ) → IsCovered g f → (i : ℕ) → ClauseHolds g f i

abbrev pub DerivableClausesHold : Type 0
DerivableClausesHold = (g : Signature Term) → Derivable g → (f : ℕ) → IsCovered g f → (i : ℕ) → ClauseHolds g f i

-- the signature is derivable, its clauses are in scope, the tree of f follows those of f, and so each of them holds
abbrev pub HoldsByClauses : Signature Term → ℕ → Type 0
HoldsByClauses g f = Derivable g × ClausesInScope g any_meta × IsCovered g f × ((i : ℕ) → ClauseHolds g f i)

-- addition by its clauses
abbrev pub AdditionClausesHold : Type 0
AdditionClausesHold = HoldsByClauses addition_by_clauses 0

-- what the second clause says of a call that fits
abbrev pub PlusOfSuccessor : Type 0
PlusOfSuccessor = (t u : Term) → Conv addition_by_clauses (plus_term (suc_term t) u) (suc_term (plus_term t u))

-- the first item of a vector by its clause
abbrev pub VectorClausesHold : Type 0
VectorClausesHold = HoldsByClauses first_by_clauses 0

-- a call at cons fits exactly where the implicit argument of cons has the value that its index forces, names apart
abbrev pub ForcedIndexFits : Type 0
ForcedIndexFits = (ps : Terms) (n m x xs : Term) → Fits first_by_clauses first_tree [] (Arg Explicit n ∷ Arg Explicit (cons_term ps m x xs) ∷ []) ↔ IsSameTerm m n

-- what the clause says of a call that fits
abbrev pub FirstOfCons : Type 0
FirstOfCons = (ps : Terms) (n x xs : Term) → Conv first_by_clauses (App Explicit (App Explicit (Def 0) n) (cons_term ps n x xs)) x

-- with its argument in braces the constructor does not fit the split
abbrev pub OtherFlagUnfit : Type 0
OtherFlagUnfit = (t u : Term) → Fits addition_by_clauses plus_covered [] (Arg Explicit (App Implicit (Con 1 End) t) ∷ Arg Explicit u ∷ []) → ⊥

-- a projection that has no branch does not fit the cosplit
abbrev pub OtherFieldUnfit : Type 0
OtherFieldUnfit = (g : Signature Term) (a b p : Term) (f : ℕ) → f ≢ 0 → f ≢ 1 → Fits g turn_tree [] (Arg Explicit a ∷ Arg Explicit b ∷ Arg Explicit p ∷ Field f ∷ []) → ⊥

-- pairs turned by a clause on a record that has eta
abbrev pub PairClausesHold : Type 0
PairClausesHold = HoldsByClauses swap_by_clauses 0

-- what the clause says of any pair, since the pattern is matched by projections
abbrev pub SwapOfAny : Type 0
SwapOfAny = (a b p : Term) → Conv swap_by_clauses (swap_term 0 a b p) (pair_of b a (Proj 1 p) (Proj 0 p))

-- matching has one answer: a match with what it binds and what remains, a clash, or neither
abbrev pub OneMatch : Type 0
OneMatch = (g : Signature Term) (ps : Shapes) (es rest more : List Elim) (σ τ : Bound) → Front g ps es σ rest → Front g ps es τ more → (σ ≡ τ) × (rest ≡ more)

abbrev pub NoMatchAndClash : Type 0
NoMatchAndClash = (g : Signature Term) (ps : Shapes) (es rest : List Elim) (σ : Bound) → Front g ps es σ rest → Apart g ps es → ⊥

abbrev pub OneFirstMatch : Type 0
OneFirstMatch = (g : Signature Term) (qs : List Clause) (i j : ℕ) (es rest more : List Elim) (σ τ : Bound) → FirstMatch g qs i es σ rest → FirstMatch g qs j es τ more → (i ≡ j) × (σ ≡ τ) × (rest ≡ more)
