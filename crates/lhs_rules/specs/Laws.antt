-- The statements of the laws of left sides.
use Rattle.std.specs.Prelude.{◌≡◌, ◌<◌, ℕ, true, List, [], ◌∷◌, length, map, slice_get, Some, is_some}
use Rattle.std.specs.List.{AllByRecursion, list_any}
use Rattle.core_rules.specs.Term.{Term, HasNoMeta}
use Rattle.core_rules.specs.Signature.{Signature, Decl, CheckedLeft, CoreClause, defs, def_type}
use Rattle.core_rules.specs.Typing.{Typing}
use Rattle.core_rules.specs.TreeLaws.{IsSound}
use Rattle.core_rules.specs.UnifierAnswers.{Answers, answers, IsUnifier}
use Rattle.core_rules.specs.Mapped.{AllDecl}
use Rattle.core_rules.specs.InScope.{InScope, SignatureInScope, SolutionsInScope, LeftInScope, IsAcyclic}
use Rattle.core_rules.specs.ScopeLaws.{ForMetas}
use Rattle.core_rules.specs.Heads.{Solutions}
use Rattle.core_rules.specs.BoundedLaws.{ExactlyOne, no_solutions}
use Rattle.kernel_rules.specs.Outcome.{Gives}
use Rattle.match_rules.specs.Matching.{clause_of}
use Rattle.cover_rules.specs.Ready.{OneNothing, AllReady}
use Rattle.resolved_tree.specs.declared.resolved.ResolvedClause.{ResolvedClause}
use Rattle.resolved_tree.specs.declared.resolved.ResolvedPattern.{ResolvedPattern}
use Rattle.lhs_rules.specs.Absurd.{is_absurd, is_ended}
use Rattle.lhs_rules.specs.Asking.{Comes}
use Rattle.lhs_rules.specs.Spots.{Left, start, left_term}
use Rattle.lhs_rules.specs.Rules.{all_elims}
use Rattle.lhs_rules.specs.Patterns.{pattern_meaning, LeftOf}
use Rattle.lhs_rules.specs.Reached.{Reached, ConstructorsFit}

-- of any clause, in scope or not, whichever metavariables are solved
abbrev pub ExactlyOneLeft : Type 0
ExactlyOneLeft = (g : Signature Term) (s f : Solutions) (fuel depth : ℕ) (a : Term) (q : ResolvedClause) → IsAcyclic s → ExactlyOne (LeftOf g s f fuel depth a q)

-- the left side of a clause that has a pattern `()` has one as matching sees it, whatever the clause's right side
abbrev pub AcceptedKeepsNothing : Type 0
AcceptedKeepsNothing = (g : Signature Term) (s f : Solutions) (fuel depth : ℕ) (a : Term) (q : ResolvedClause) (c : CoreClause Term) → list_any is_absurd q.patterns ≡ true → LeftOf g s f fuel depth a q (Gives c.left)
    → OneNothing (clause_of g c).shapes

module _ (g : Signature Term) (s f : Solutions) (fuel depth : ℕ) (a : Term) where
  -- the checked clause has the left side that is accepted, and a right side exactly where the clause has one
  pub record ClauseRead (q : ResolvedClause) (c : CoreClause Term) : Type 0 where
    pub left : LeftOf g s f fuel depth a q (Gives c.left)
    pub right : is_some c.right ≡ is_some q.right

  -- clause by clause
  pub data ClausesRead : List ResolvedClause → List (CoreClause Term) → Type 0 where
    none : ClausesRead [] []
    one : {q : ResolvedClause} {c : CoreClause Term} {qs : List ResolvedClause} {cs : List (CoreClause Term)} → ClauseRead q c → ClausesRead qs cs → ClausesRead (q ∷ qs) (c ∷ cs)

-- the clauses of a function of type a, each of which has a right side or a pattern `()`, are as covering asks, where they are accepted
abbrev pub AcceptedClausesReady : Type 0
AcceptedClausesReady = (g : Signature Term) (s f : Solutions) (fuel depth : ℕ) (a : Term) (qs : List ResolvedClause) (cs : List (CoreClause Term)) → AllByRecursion (λ q. is_ended q ≡ true) qs → ClausesRead g s f fuel depth a qs cs
    → AllReady g (map (clause_of g) cs)

-- no metavariable stands in a declaration
abbrev pub HasNoMetas : Signature Term → Type 0
HasNoMetas g = (i : ℕ) (d : Decl Term) → slice_get g i ≡ Some d → AllDecl HasNoMeta d

-- the left side of a clause that is accepted is in scope, also where the clause names what is not there: over a signature in scope, in whose
-- declarations no metavariable stands, for a function of a closed type, with solutions of metavariables in scope
abbrev pub AcceptedLeftInScope : Type 0
AcceptedLeftInScope = ForMetas (λ M. (g : Signature Term) (s f : Solutions) (fuel depth : ℕ) (a : Term) (q : ResolvedClause) (l : CheckedLeft Term) → SignatureInScope g M → HasNoMetas g → SolutionsInScope g M s → SolutionsInScope g M f
    → q.function < length (defs g) → InScope g M 0 a → LeftOf g s f fuel depth a q (Gives l) → LeftInScope g M l)

-- the left side that is read of the patterns of a clause of function f of type a, without metavariables, with these answers of the unifier
abbrev pub LeftBy : Signature Term → ℕ → Answers → ℕ → Term → List ResolvedPattern → Left → Type 0
LeftBy g fuel u f a qs l = Comes g no_solutions fuel (answers u) (all_elims g f (map (pattern_meaning g f) qs) (start a)) (Gives l)

-- over a sound signature, with the answers of an index unifier: the left side that is read is reached from the function step by step
abbrev pub LeftIsReached : Type 0
LeftIsReached = (g : Signature Term) (fuel : ℕ) (u : Answers) (f : ℕ) (a : Term) (qs : List ResolvedPattern) (l : Left) → IsSound g → IsUnifier g (answers u) → LeftBy g fuel u f a qs l → Reached g u f a l.context (left_term f l) l.ty

-- and has its type, where the constructors that are put in the left sides of the function fit
abbrev pub LeftIsTyped : Type 0
LeftIsTyped = (g : Signature Term) (fuel : ℕ) (u : Answers) (f : ℕ) (a : Term) (qs : List ResolvedPattern) (l : Left) → IsSound g → IsUnifier g (answers u) → def_type g f ≡ Some a → ConstructorsFit g u f a → LeftBy g fuel u f a qs l
    → Typing g l.context (left_term f l) l.ty
