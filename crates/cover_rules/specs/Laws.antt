-- What is known of case trees.
use Rattle.std.specs.Prelude.{◌≡◌, ℕ, ◌<◌, List, [], ◌∷◌, length}
use Rattle.core_rules.specs.Term.{Term}
use Rattle.core_rules.specs.Signature.{Signature, Tree, CheckedLeft, CoreClause}
use Rattle.core_rules.specs.Elimination.{Elim}
use Rattle.core_rules.specs.Heads.{Solutions}
use Rattle.core_rules.specs.BoundedLaws.{no_solutions, ExactlyOne}
use Rattle.match_rules.specs.Matching.{Clause, clause_of}
use Rattle.match_rules.specs.Covering.{Covers}
use Rattle.cover_rules.specs.LeftSide.{Node, left_of}
use Rattle.cover_rules.specs.Looking.{Halts, Clash, LooksAll}
use Rattle.core_rules.specs.UnifierAnswers.{IsUnifier, Answers, answers}
use Rattle.cover_rules.specs.CoverOf.{Result, Done, Failed, Missing, CoverOf}
use Rattle.cover_rules.specs.Ready.{PlainAll, AllReady}
use Rattle.cover_rules.specs.Ending.{RankOf, Child, Reaches, Terminates}

abbrev pub OneCover : Type 0
OneCover = (g : Signature Term) (s : Solutions) (fuel : ℕ) (u : Answers) (f : ℕ) (qs : List Clause) (n : Node) (v w : Result (Tree Term)) → CoverOf g s fuel (answers u) f qs n v → CoverOf g s fuel (answers u) f qs n w → v ≡ w

-- a tree that is accepted follows its clauses
abbrev pub AcceptedCovers : Type 0
AcceptedCovers = (g : Signature Term) (fuel : ℕ) (u : Answers) → IsUnifier g (answers u) → (f : ℕ) (qs : List Clause) (n : Node) (T : Tree Term) → CoverOf g no_solutions fuel (answers u) f qs n (Done T) → Covers g qs (length n.context) n.spine T

-- each clause clashes
pub data AllClash (g : Signature Term) (s : Solutions) (fuel : ℕ) : List Clause → List Elim → Type 0 where
  none : {ls : List Elim} → AllClash g s fuel [] ls
  one : {q : Clause} {qs : List Clause} {ls : List Elim} → LooksAll g s fuel q.shapes ls (Halts Clash) → AllClash g s fuel qs ls → AllClash g s fuel (q ∷ qs) ls

-- Missing carries a left side that is reached, where each clause clashes
abbrev pub MissingClashes : Type 0
MissingClashes = (g : Signature Term) (s : Solutions) (fuel : ℕ) (u : Answers) (f : ℕ) (qs : List Clause) (n : Node) (l : CheckedLeft Term) → CoverOf g s fuel (answers u) f qs n (Failed (Missing l))
    → (m : Node) × Reaches g s fuel (answers u) f qs n m × (l ≡ left_of m) × AllClash g s fuel qs m.spine

-- the rank falls from a left side to each one that it leads to
abbrev pub RankFalls : Type 0
RankFalls = (g : Signature Term) (fuel : ℕ) (u : Answers) (f : ℕ) (qs : List Clause) (n n' : Node) (r : ℕ) → Child g no_solutions fuel (answers u) f qs n n' → RankOf g qs n.spine r → (k : ℕ) × (k < r) × RankOf g qs n'.spine k

-- so no endless way leads down
abbrev pub CoverFalls : Type 0
CoverFalls = RankFalls × ((g : Signature Term) (fuel : ℕ) (u : Answers) (f : ℕ) (qs : List Clause) (n : Node) → Terminates g no_solutions fuel (answers u) f qs n)

-- each left side has exactly one answer: no rule is forgotten, and no two disagree
abbrev pub ExactlyOneCover : Type 0
ExactlyOneCover = (g : Signature Term) (fuel : ℕ) (u : Answers) (f : ℕ) (qs : List Clause) → AllReady g qs → (n : Node) → ExactlyOne (CoverOf g no_solutions fuel (answers u) f qs n)

-- each clause is matched by patterns that name constructors by their kind
abbrev pub ClausesPlain : Type 0
ClausesPlain = (g : Signature Term) (q : CoreClause Term) → PlainAll g (clause_of g q).shapes
