-- Left sides read by hand: what they come to with any fuel, and to each depth at which their equations are told.
use Rattle.std.specs.Prelude.{ℕ, suc, false, List, [], ◌∷◌, None}
use Rattle.core_rules.specs.declared.Flag.TheVariants.{Explicit, Implicit}
use Rattle.core_rules.specs.Term.{Var, Sort, App, Fam, Def, Term, Pi}
use Rattle.core_rules.specs.Signature.{Leaf, Family, Function, Signature, SolvedPat, DottedPat, ConPat, ProjectionPat, Written, Inserted, Variable, Underscore, Without, Pat, VarPat, NoPat, AndPat, CheckedLeft}
use Rattle.core_rules.specs.Signature as S
use Rattle.resolved_tree.specs.declared.resolved.ResolvedExpr.{ResolvedExpr}
use Rattle.core_rules.specs.Typing.{entry}
use Rattle.core_rules.specs.Examples.{nat, pair_type, families}
use Rattle.core_rules.specs.Addition.{zero_term, suc_term, nat_type}
use Rattle.core_rules.specs.BoundedLaws.{no_solutions}
use Rattle.kernel_rules.specs.Outcome.{Outcome, Gives, Refuses}
use Rattle.source_tree.specs.declared.place.Place.{Place}
use Rattle.resolved_tree.specs.declared.resolved.ResolvedName.{ResolvedName}
use Rattle.resolved_tree.specs.declared.resolved.ResolvedPattern.{ResolvedPattern}
use Rattle.resolved_tree.specs.declared.resolved.ResolvedPattern.TheVariants as r
use Rattle.resolved_tree.specs.declared.resolved.ResolvedClause.{ResolvedClause}
use Rattle.lhs_rules.specs.Refusals.{CannotSplit, ForcedConstructor, Impossible, Refusal, at, NotAbsurd, WrongArity, NoSuchName}
use Rattle.lhs_rules.specs.Patterns.{LeftOf}

-- a clause of function 0 with these patterns
abbrev pub clause : Place → List ResolvedPattern → ResolvedClause
clause p qs = record { place = p; function = 0; patterns = qs; right = None }

-- ---- over Nat, Vec and Pair of the rules' examples: zero, suc, nil and cons are the constructors 0 to 3, fst and snd the fields 0 and 1

abbrev pub FamiliesLeft : ℕ → ℕ → Term → ResolvedClause → Outcome Refusal (CheckedLeft Term) → Type 0
FamiliesLeft fuel depth a q r = LeftOf families no_solutions no_solutions fuel depth a q r

-- `f x _` at `(n : Nat) → (m : Nat) → Nat`: the second entry has the binder's name
abbrev pub VariablesTaken : Type 0
VariablesTaken = (fuel d n m : ℕ) (p q : Place) (x : ResolvedName)
    → FamiliesLeft fuel d (Pi Explicit n nat_type (Pi Explicit m nat_type nat_type)) (clause p (r.Variable x ∷ r.Underscore q ∷ []))
    (Gives (record {
      context = entry Explicit x.id nat_type ∷ entry Explicit m nat_type ∷ [];
      pats = AndPat (Pat (VarPat 1) (Variable x.id false) Without) (AndPat (Pat (VarPat 0) Underscore Without) NoPat);
      ty = nat_type;
      named = [];
      dots = [];
      inserted = 0;
    }))

-- `f zero x` at `(n : Nat) → Nat`
abbrev pub OnePatternTooMany : Type 0
OnePatternTooMany = (fuel d n : ℕ) (p q : Place) (x : ResolvedName)
    → FamiliesLeft fuel d (Pi Explicit n nat_type nat_type) (clause p (r.Con q 0 [] ∷ r.Variable x ∷ [])) (Refuses (at x.place.pos WrongArity))

-- `f ()` at the same type
abbrev pub NumberNotAbsurd : Type 0
NumberNotAbsurd = (fuel d n : ℕ) (p q : Place)
    → FamiliesLeft fuel d (Pi Explicit n nat_type nat_type) (clause p (r.Absurd q ∷ [])) (Refuses (at q.pos NotAbsurd))

-- `f {x}` at the same type
abbrev pub BracesRefused : Type 0
BracesRefused = (fuel d n : ℕ) (p q : Place) (x : ResolvedName)
    → FamiliesLeft fuel d (Pi Explicit n nat_type nat_type) (clause p (r.Implicit q (r.Variable x) ∷ [])) (Refuses (at q.pos NoSuchName))

-- `f zero` at `(A : Set) → Nat`, and at a projection of no record
abbrev pub NoConstructorOfSet : Type 0
NoConstructorOfSet = (fuel d n : ℕ) (p q : Place)
    → FamiliesLeft fuel d (Pi Explicit n (Sort 0) nat_type) (clause p (r.Con q 0 [] ∷ [])) (Refuses (at q.pos CannotSplit))
    × FamiliesLeft fuel d nat_type (clause p (r.Project q 0 ∷ [])) (Refuses (at q.pos WrongArity))

-- `f x` and `f {y = .x} x`, where the type of f is `{n : Nat} → Nat → Nat`: a pattern is inserted, or written under the binder's name
abbrev pub ImplicitPatterns : Type 0
ImplicitPatterns = (fuel d n m : ℕ) (p q i : Place) (x : ResolvedName) (e : ResolvedExpr)
    → FamiliesLeft fuel d (Pi Implicit n nat_type (Pi Explicit m nat_type nat_type)) (clause p (r.Variable x ∷ []))
    (Gives (record {
      context = entry Implicit n nat_type ∷ entry Explicit x.id nat_type ∷ [];
      pats = AndPat (Pat (VarPat 1) Inserted S.Plain) (AndPat (Pat (VarPat 0) (Variable x.id false) Without) NoPat);
      ty = nat_type;
      named = [];
      dots = [];
      inserted = 1;
    }))
    × FamiliesLeft fuel d (Pi Implicit 7 nat_type (Pi Explicit m nat_type nat_type)) (clause p (r.Named q (record { id = 7; place = i }) (r.Dotted i e) ∷ r.Variable x ∷ []))
    (Gives (record {
      context = entry Implicit 7 nat_type ∷ entry Explicit x.id nat_type ∷ [];
      pats = AndPat (Pat (DottedPat (Var 1)) Written (S.Named 7)) (AndPat (Pat (VarPat 0) (Variable x.id false) Without) NoPat);
      ty = nat_type;
      named = [];
      dots = record { at = 0; value = Var 1; ty = nat_type } ∷ [];
      inserted = 0;
    }))

-- `f n .fst`, where the type of f is `(n : Nat) → Pair Nat Nat`
abbrev pub FirstField : Type 0
FirstField = (fuel d n : ℕ) (p q : Place) (x : ResolvedName)
    → FamiliesLeft fuel d (Pi Explicit n nat_type (pair_type nat_type nat_type)) (clause p (r.Variable x ∷ r.Project q 0 ∷ []))
    (Gives (record {
      context = entry Explicit x.id nat_type ∷ [];
      pats = AndPat (Pat (VarPat 0) (Variable x.id false) Without) (AndPat (Pat (ProjectionPat 0) Written Without) NoPat);
      ty = nat_type;
      named = [];
      dots = [];
      inserted = 0;
    }))

abbrev pub vec_type : Term → Term
vec_type n = App Explicit (App Explicit (Fam 1) nat_type) n

-- `f (cons x xs)`, where the type of f is `Vec Nat zero → Nat`
abbrev pub ConsImpossible : Type 0
ConsImpossible = (fuel d n : ℕ) (p q : Place) (x xs : ResolvedName)
    → FamiliesLeft fuel (suc d) (Pi Explicit n (vec_type zero_term) nat_type) (clause p (r.Con q 3 (r.Variable x ∷ r.Variable xs ∷ []) ∷ [])) (Refuses (at q.pos Impossible))

-- `f (cons x)`, and `f (cons x {xs})`, at the same type
abbrev pub ConsMisaligned : Type 0
ConsMisaligned = (fuel d n : ℕ) (p q i : Place) (x xs : ResolvedName)
    → FamiliesLeft fuel d (Pi Explicit n (vec_type zero_term) nat_type) (clause p (r.Con q 3 (r.Variable x ∷ []) ∷ [])) (Refuses (at q.pos WrongArity))
    × FamiliesLeft fuel d (Pi Explicit n (vec_type zero_term) nat_type) (clause p (r.Con q 3 (r.Variable x ∷ r.Implicit i (r.Variable xs) ∷ []) ∷ [])) (Refuses (at i.pos NoSuchName))

-- `f n (cons {m} x xs)`, where the type of f is `(n : Nat) → Vec Nat (suc n) → Nat`: m is solved, and is a name for n
abbrev pub ConsSolved : Type 0
ConsSolved = (fuel d n v : ℕ) (p q i : Place) (k m x xs : ResolvedName)
    → FamiliesLeft fuel (suc (suc d)) (Pi Explicit n nat_type (Pi Explicit v (vec_type (suc_term (Var 0))) nat_type))
    (clause p (r.Variable k ∷ r.Con q 3 (r.Implicit i (r.Variable m) ∷ r.Variable x ∷ r.Variable xs ∷ []) ∷ []))
    (Gives (record {
      context = entry Explicit k.id nat_type ∷ entry Explicit x.id nat_type ∷ entry Explicit xs.id (vec_type (Var 1)) ∷ [];
      pats = AndPat (Pat (VarPat 2) (Variable k.id false) Without) (AndPat (Pat (ConPat 3
          (AndPat (Pat (SolvedPat (Var 2)) (Variable m.id false) S.Plain)
          (AndPat (Pat (VarPat 1) (Variable x.id false) Without)
          (AndPat (Pat (VarPat 0) (Variable xs.id false) Without) NoPat)))) Written Without) NoPat);
      ty = nat_type;
      named = record { name = m.id; value = Var 2; ty = nat_type } ∷ [];
      dots = [];
      inserted = 0;
    }))

-- `f n (cons {zero} x xs)` at the same type: m is solved already
abbrev pub SolvedForced : Type 0
SolvedForced = (fuel d n v : ℕ) (p q i z : Place) (k x xs : ResolvedName)
    → FamiliesLeft fuel (suc (suc d)) (Pi Explicit n nat_type (Pi Explicit v (vec_type (suc_term (Var 0))) nat_type))
    (clause p (r.Variable k ∷ r.Con q 3 (r.Implicit i (r.Con z 0 []) ∷ r.Variable x ∷ r.Variable xs ∷ []) ∷ [])) (Refuses (at z.pos ForcedConstructor))

-- ---- over a function that is the type of implicit functions into itself: `hides = {n : Nat} → hides`

abbrev pub hiding : ℕ → Signature Term
hiding n = Family nat ∷ Function 3 (Sort 0) [] (Leaf (Pi Implicit n nat_type (Def 0)) 0) ∷ []

-- `f x` at this type: 2,000 patterns are inserted before x, and one more is due
abbrev pub TooManyInserted : Type 0
TooManyInserted = (fuel d n : ℕ) (p : Place) (x : ResolvedName)
    → LeftOf (hiding n) no_solutions no_solutions (suc fuel) d (Def 0) (clause p (r.Variable x ∷ [])) (Refuses (at x.place.pos WrongArity))
