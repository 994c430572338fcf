-- How a clause is matched on eliminations, which eliminations fit a function's tree, and when a clause holds.
use Rattle.std.specs.Prelude.{◌≡◌, ◌≢◌, ℕ, Bool, false, ◌||◌, eqb, cond, List, [], ◌∷◌, ◌++◌, length, map, slice_get, Option, Some, None, option_and_then, zero, suc}
use Rattle.core_rules.specs.declared.Flag.{Flag}
use Rattle.core_rules.specs.declared.Flag.TheVariants.{Explicit}
use Rattle.core_rules.specs.Term.{Term, Terms, Var, Sort, Con, Def, nameless}
use Rattle.core_rules.specs.Substitution.{value_at, under}
use Rattle.core_rules.specs.Signature.{CorePat, PatShape, CorePats, Pat, VarPat, SolvedPat, DottedPat, ConPat, AbsurdPat, ProjectionPat, NoPat, AndPat, CoreClause, Branch, Tree, Leaf, Intro, Cosplit, Split, RecordSplit, CoBranches, ConBranches, co_branch, con_branch, ConDecl, Signature, con_place, con_decl, fam_decl, def_decl, Function}
use Rattle.core_rules.specs.Elimination.{Elim, Arg, Field, elims, args, projections}
use Rattle.core_rules.specs.Run.{parts, spread, kept}
use Rattle.core_rules.specs.Conversion.{Conv}
use Rattle.core_rules.specs.Heads.{Form, Heads}
use Rattle.core_rules.specs.BoundedLaws.{no_solutions}

-- a pattern as matching sees it: anything, with the variable that it binds; a constructor; the constructor of a record that has
-- eta, by the record; `()`; a projection
mutual
  pub data Shape : Type 0 where
    Any : Option ℕ → Shape
    OfCon : ℕ → Shapes → Shape
    OfRecord : ℕ → Shapes → Shape
    Nothing : Shape
    OfField : ℕ → Shape

  pub data Shapes : Type 0 where
    NoShape : Shapes
    AndShape : Shape → Shapes → Shapes

-- the record of constructor k, where it has eta
abbrev pub eta_family : Signature Term → ℕ → Option ℕ
eta_family g k = option_and_then (λ p. option_and_then (λ d. cond d.eta (Some p.0) None) (fam_decl g p.0)) (con_place g k)

abbrev pub con_shape : Option ℕ → ℕ → Shapes → Shape
con_shape None k ps = OfCon k ps
con_shape (Some d) k ps = OfRecord d ps

-- the variable that t is
abbrev pub variable : Term → List ℕ
variable (Var i) = i ∷ []
variable _ = []

abbrev pub among : ℕ → List ℕ → Bool
among x [] = false
among x (y ∷ ys) = eqb x y || among x ys

-- a dotted variable is bound where it is not among those bound elsewhere or before
abbrev pub new_variable : List ℕ → List ℕ → Option ℕ
new_variable seen [] = None
new_variable seen (x ∷ xs) = cond (among x seen) None (Some x)

-- the variables that patterns have, and those that are values of dotted patterns
abbrev mutual
  pub pat_vars : CorePat Term → List ℕ
  pat_vars (Pat p o b) = shape_vars p

  pub shape_vars : PatShape Term → List ℕ
  shape_vars (VarPat i) = i ∷ []
  shape_vars (SolvedPat t) = []
  shape_vars (DottedPat t) = []
  shape_vars (ConPat k ps) = pats_vars ps
  shape_vars AbsurdPat = []
  shape_vars (ProjectionPat f) = []

  pub pats_vars : CorePats Term → List ℕ
  pats_vars NoPat = []
  pats_vars (AndPat p ps) = pat_vars p ++ pats_vars ps

abbrev mutual
  pub pat_dots : CorePat Term → List ℕ
  pat_dots (Pat p o b) = shape_dots p

  pub shape_dots : PatShape Term → List ℕ
  shape_dots (VarPat i) = []
  shape_dots (SolvedPat t) = []
  shape_dots (DottedPat t) = variable t
  shape_dots (ConPat k ps) = pats_dots ps
  shape_dots AbsurdPat = []
  shape_dots (ProjectionPat f) = []

  pub pats_dots : CorePats Term → List ℕ
  pats_dots NoPat = []
  pats_dots (AndPat p ps) = pat_dots p ++ pats_dots ps

-- the patterns, where the variables `seen` are bound by others
abbrev mutual
  pub pat_shape : Signature Term → List ℕ → CorePat Term → Shape
  pat_shape g seen (Pat p o b) = shape_of g seen p

  pub shape_of : Signature Term → List ℕ → PatShape Term → Shape
  shape_of g seen (VarPat i) = Any (Some i)
  shape_of g seen (SolvedPat t) = Any None
  shape_of g seen (DottedPat t) = Any (new_variable seen (variable t))
  shape_of g seen (ConPat k ps) = con_shape (eta_family g k) k (pats_shapes g seen ps)
  shape_of g seen AbsurdPat = Nothing
  shape_of g seen (ProjectionPat f) = OfField f

  pub pats_shapes : Signature Term → List ℕ → CorePats Term → Shapes
  pats_shapes g seen NoPat = NoShape
  pats_shapes g seen (AndPat p ps) = AndShape (pat_shape g seen p) (pats_shapes g (pat_dots p ++ seen) ps)

-- a clause as matching sees it; size is the number of its variables
pub record Clause : Type 0 where
  pub shapes : Shapes
  pub size : ℕ
  pub right : Option Term

abbrev pub clause_of : Signature Term → CoreClause Term → Clause
clause_of g q = record { shapes = pats_shapes g (pats_vars q.left.pats) q.left.pats; size = length q.left.context; right = q.right }

-- variables with their values
abbrev pub Bound : Type 0
Bound = List (ℕ × Term)

abbrev pub binds : Option ℕ → Term → Bound
binds None t = []
binds (Some x) t = (x, t) ∷ []

-- the value of x, which is a closed term where there is none
abbrev pub find : ℕ → Bound → Term
find x [] = Sort 0
find x (b ∷ bs) = cond (eqb x b.0) b.1 (find x bs)

-- the values of n variables from x on
abbrev pub values_from : ℕ → ℕ → Bound → List Term
values_from x zero bs = []
values_from x (suc n) bs = find x bs ∷ values_from (suc x) n bs

-- the head form of v is constructor k under es
pub record HasHead (g : Signature Term) (v : Term) (k : ℕ) (es : List Elim) : Type 0 where
  pub params : Terms
  pub steps : ℕ
  pub heads : Heads g no_solutions v [] (Form (Con k params) es) steps

-- terms as arguments
abbrev pub as_args : List Term → List Elim
as_args ts = map (Arg Explicit) ts

mutual
  -- a pattern matches a term, with what it binds
  pub data Matches (g : Signature Term) : Shape → Term → Bound → Type 0 where
    any : {o : Option ℕ} {v : Term} → Matches g (Any o) v (binds o v)
    of_con : {k : ℕ} {ps : Shapes} {v : Term} {es : List Elim} {σ : Bound} → HasHead g v k es → Front g ps es σ [] → Matches g (OfCon k ps) v σ
    of_record : {d : ℕ} {ps : Shapes} {v : Term} {σ : Bound} → Front g ps (as_args (projections g d v)) σ [] → Matches g (OfRecord d ps) v σ

  -- patterns match eliminations one by one, with what they bind and the eliminations that remain
  pub data Front (g : Signature Term) : Shapes → List Elim → Bound → List Elim → Type 0 where
    end : {es : List Elim} → Front g NoShape es [] es
    arg : {p : Shape} {ps : Shapes} {b : Flag} {v : Term} {es rest : List Elim} {σ τ : Bound} → Matches g p v σ → Front g ps es τ rest → Front g (AndShape p ps) (Arg b v ∷ es) (σ ++ τ) rest
    field : {f h : ℕ} {ps : Shapes} {es rest : List Elim} {τ : Bound} → h ≡ f → Front g ps es τ rest → Front g (AndShape (OfField f) ps) (Field h ∷ es) τ rest

mutual
  pub data Clashes (g : Signature Term) : Shape → Term → Type 0 where
    other : {k j : ℕ} {ps : Shapes} {v : Term} {es : List Elim} → HasHead g v j es → j ≢ k → Clashes g (OfCon k ps) v
    in_con : {k : ℕ} {ps : Shapes} {v : Term} {es : List Elim} → HasHead g v k es → Apart g ps es → Clashes g (OfCon k ps) v
    in_record : {d : ℕ} {ps : Shapes} {v : Term} → Apart g ps (as_args (projections g d v)) → Clashes g (OfRecord d ps) v

  -- the first of the patterns that does not match clashes
  pub data Apart (g : Signature Term) : Shapes → List Elim → Type 0 where
    here : {p : Shape} {ps : Shapes} {b : Flag} {v : Term} {es : List Elim} → Clashes g p v → Apart g (AndShape p ps) (Arg b v ∷ es)
    later : {p : Shape} {ps : Shapes} {b : Flag} {v : Term} {es : List Elim} {σ : Bound} → Matches g p v σ → Apart g ps es → Apart g (AndShape p ps) (Arg b v ∷ es)
    other_field : {f h : ℕ} {ps : Shapes} {es : List Elim} → h ≢ f → Apart g (AndShape (OfField f) ps) (Field h ∷ es)
    past_field : {f h : ℕ} {ps : Shapes} {es : List Elim} → h ≡ f → Apart g ps es → Apart g (AndShape (OfField f) ps) (Field h ∷ es)

-- clause number i matches, with what it binds and the eliminations that remain, and each one before it clashes
pub data FirstMatch (g : Signature Term) : List Clause → ℕ → List Elim → Bound → List Elim → Type 0 where
  first : {q : Clause} {qs : List Clause} {es rest : List Elim} {σ : Bound} → Front g q.shapes es σ rest → FirstMatch g (q ∷ qs) 0 es σ rest
  next : {q : Clause} {qs : List Clause} {i : ℕ} {es rest : List Elim} {σ : Bound} → Apart g q.shapes es → FirstMatch g qs i es σ rest → FirstMatch g (q ∷ qs) (suc i) es σ rest

mutual
  -- eliminations fit a tree in an environment: no absurd split is reached, and each constructor and each projection at a split has its branch
  pub data Fits (g : Signature Term) : Tree Term → List Term → List Elim → Type 0 where
    at_leaf : {t : Term} {n : ℕ} {r : List Term} {es : List Elim} → Fits g (Leaf t n) r es
    intro : {T : Tree Term} {r : List Term} {b : Flag} {u : Term} {es : List Elim} → Fits g T (u ∷ r) es → Fits g (Intro T) r (Arg b u ∷ es)
    intro_end : {T : Tree Term} {r : List Term} → Fits g (Intro T) r []
    intro_field : {T : Tree Term} {r : List Term} {f : ℕ} {es : List Elim} → Fits g (Intro T) r (Field f ∷ es)
    cosplit : {bs : CoBranches Term} {T : Tree Term} {r : List Term} {f : ℕ} {es : List Elim} → co_branch bs f ≡ Some T → Fits g T r es → Fits g (Cosplit bs) r (Field f ∷ es)
    cosplit_end : {bs : CoBranches Term} {r : List Term} → Fits g (Cosplit bs) r []
    cosplit_arg : {bs : CoBranches Term} {r : List Term} {b : Flag} {u : Term} {es : List Elim} → Fits g (Cosplit bs) r (Arg b u ∷ es)
    split : {i : ℕ} {bs : ConBranches Term} {r : List Term} {es : List Elim} → ((k : ℕ) (ds : List Elim) → HasHead g (value_at r i) k ds → FitsBranch g bs i k ds r es) → Fits g (Split i bs) r es
    record_split : {k d : ℕ} {T : Tree Term} {r : List Term} {es : List Elim} → Fits g T (spread k (parts g d (value_at r k)) r) es → Fits g (RecordSplit k d T) r es

  -- the constructor has exactly all its arguments, with their flags; its branch goes on; and each value of the constructor's context is
  -- the same term as the branch's value under the new environment
  pub data FitsBranch (g : Signature Term) : ConBranches Term → ℕ → ℕ → List Elim → List Term → List Elim → Type 0 where
    goes : {bs : ConBranches Term} {i k : ℕ} {ds : List Elim} {r : List Term} {es : List Elim} (con : ConDecl Term) (us : List Term) (b : Branch Term) (T : Tree Term)
        → con_decl g k ≡ Some con → length us ≡ length con.args → ds ≡ args con.args us → con_branch bs k ≡ Some (b, T)
        → map nameless (spread i us r) ≡ map nameless (map (under (kept b (spread i us r))) b.values) → Fits g T (kept b (spread i us r)) es → FitsBranch g bs i k ds r es

-- where eliminations fit f, clause i is the first that matches and has a right side, the call is this under the match, at what remains
abbrev pub ClauseHolds : Signature Term → ℕ → ℕ → Type 0
ClauseHolds g f i = (x : ℕ) (a : Term) (qs : List (CoreClause Term)) (T : Tree Term) (q : Clause) (t : Term) (es rest : List Elim) (σ : Bound)
    → def_decl g f ≡ Some (Function x a qs T) → slice_get (map (clause_of g) qs) i ≡ Some q → q.right ≡ Some t
    → Fits g T [] es → FirstMatch g (map (clause_of g) qs) i es σ rest → Conv g (elims (Def f) es) (elims (under (values_from 0 q.size σ) t) rest)
