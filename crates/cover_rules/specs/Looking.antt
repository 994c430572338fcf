-- What matching says of a clause at the terms of a left side, where head forms are bounded.
use Rattle.std.specs.Prelude.{◌≡◌, ◌≢◌, ℕ, eqb, cond, List, [], ◌∷◌, ◌++◌, Option, Some, None}
use Rattle.core_rules.specs.declared.Flag.{Flag}
use Rattle.core_rules.specs.Term.{Term, Terms, Var, Sort, Pi, Lam, App, Def, Fam, Con, Proj, Meta}
use Rattle.core_rules.specs.Substitution.{put_solution}
use Rattle.core_rules.specs.Signature.{Signature}
use Rattle.core_rules.specs.Elimination.{Elim, Arg, Field, projections}
use Rattle.core_rules.specs.Heads.{Solutions, Form, Bounded, Within, Out, HeadOf}
use Rattle.core_rules.specs.Bounded.{RecordValue}
use Rattle.match_rules.specs.Matching.{Shape, Any, OfCon, OfRecord, Nothing, OfField, Shapes, NoShape, AndShape, eta_family, Bound, binds, as_args}
use Rattle.match_rules.specs.Covering.{IsArg}
use Rattle.cover_rules.specs.Flagged.{flagged_value}

-- why a clause does not match: it clashes; it waits for a variable, at a constructor, at a record that has eta or at `()`; it waits for
-- a term that is no variable; its eliminations are of another kind; a head form is out of fuel
pub data Why : Type 0 where
  Clash : Why
  At : ℕ → Why
  RecordAt : ℕ → Why
  NothingAt : ℕ → Why
  Unable : Why
  Odd : Why
  Spent : Why

-- it matches, with what it binds and the patterns that are left, or not
pub data Look : Type 0 where
  Yes : Bound → Shapes → Look
  Halts : Why → Look

abbrev pub whole : Look → Look
whole (Yes σ NoShape) = Yes σ NoShape
whole (Yes σ (AndShape p ps)) = Halts Odd
whole (Halts y) = Halts y

abbrev pub after : Bound → Look → Look
after σ (Yes τ ps) = Yes (σ ++ τ) ps
after σ (Halts y) = Halts y

-- what a term itself is: a variable, a variable under eliminations, a constructor under eliminations, another term
pub data Face : Type 0 where
  Variable : ℕ → Face
  Neutral : Face
  Constructor : ℕ → List Elim → Face
  Another : Face

abbrev pub var_face : ℕ → List Elim → Face
var_face i [] = Variable i
var_face i (e ∷ es) = Neutral

abbrev pub IsOther : Term → Type 0
IsOther (Var i) = ⊥
IsOther (Sort n) = Unit {0}
IsOther (Pi b x a t) = Unit {0}
IsOther (Lam b x a t) = Unit {0}
IsOther (App b t u) = ⊥
IsOther (Def f) = Unit {0}
IsOther (Fam d) = Unit {0}
IsOther (Con k ps) = ⊥
IsOther (Proj f t) = ⊥
IsOther (Meta m ts) = ⊥

-- what t under es itself is, with solved metavariables replaced; nothing is unfolded
pub data Faces (s : Solutions) : Term → List Elim → Face → Type 0 where
  variable : {i : ℕ} {es : List Elim} → Faces s (Var i) es (var_face i es)
  constructor : {k : ℕ} {ps : Terms} {es : List Elim} → Faces s (Con k ps) es (Constructor k es)
  argument : {b : Flag} {t u : Term} {es : List Elim} {w : Face} → Faces s t (Arg b u ∷ es) w → Faces s (App b t u) es w
  projection : {f : ℕ} {t : Term} {es : List Elim} {w : Face} → Faces s t (Field f ∷ es) w → Faces s (Proj f t) es w
  solved : {m : ℕ} {ts : Terms} {t : Term} {es : List Elim} {w : Face} → s m ≡ Some t → Faces s (put_solution m ts (Some t)) es w → Faces s (Meta m ts) es w
  unsolved : {m : ℕ} {ts : Terms} {es : List Elim} → s m ≡ None → Faces s (Meta m ts) es Another
  other : {h : Term} {es : List Elim} → IsOther h → Faces s h es Another

-- where a split is due: at a variable, else nowhere
abbrev pub at_variable : (ℕ → Why) → Face → Why
at_variable y (Variable i) = y i
at_variable y Neutral = Unable
at_variable y (Constructor k es) = Unable
at_variable y Another = Unable

-- a head form as a constructor's pattern sees it
pub data ConHead : Type 0 where
  NoFuel : ConHead
  IsCon : ℕ → List Elim → ConHead
  NoCon : ConHead

abbrev pub con_head : Bounded → ConHead
con_head Out = NoFuel
con_head (Within (Form (Con k ps) es) n) = IsCon k es
con_head (Within _ n) = NoCon

-- a term as the pattern of a record's constructor sees it: a variable, the constructor itself at these arguments, a term that has projections
pub data RecordFace : Type 0 where
  Unknown : ℕ → RecordFace
  Itself : List Term → RecordFace
  Through : RecordFace

abbrev pub itself_at : ℕ → Option RecordValue → RecordFace
itself_at d None = Through
itself_at d (Some v) = cond (eqb v.fam d) (Itself v.values) Through

abbrev pub record_face : Signature Term → ℕ → Face → RecordFace
record_face g d (Variable i) = Unknown i
record_face g d Neutral = Through
record_face g d (Constructor k es) = itself_at d (flagged_value g k es)
record_face g d Another = Through

module _ (g : Signature Term) (s : Solutions) (fuel : ℕ) where
  mutual
    -- one pattern on one term
    pub data Looks : Shape → Term → Look → Type 0 where
      any : {o : Option ℕ} {t : Term} → Looks (Any o) t (Yes (binds o t) NoShape)
      nothing : {t : Term} (f : Face) → Faces s t [] f → Looks Nothing t (Halts (at_variable NothingAt f))
      of_field : {f : ℕ} {t : Term} → Looks (OfField f) t (Halts Odd)
      of_con : {k : ℕ} {ps : Shapes} {t : Term} {w : Look} (b : Bounded) → eta_family g k ≡ None → HeadOf g s t fuel b → LooksCon k ps t (con_head b) w → Looks (OfCon k ps) t w
      of_record : {d : ℕ} {ps : Shapes} {t : Term} {w : Look} (f : Face) → Faces s t [] f → LooksRecord d ps t (record_face g d f) w → Looks (OfRecord d ps) t w

    -- constructor k on a term whose head form is known
    pub data LooksCon : ℕ → Shapes → Term → ConHead → Look → Type 0 where
      no_fuel : {k : ℕ} {ps : Shapes} {t : Term} → LooksCon k ps t NoFuel (Halts Spent)
      same : {k j : ℕ} {ps : Shapes} {t : Term} {es : List Elim} {w : Look} → j ≡ k → LooksAll ps es w → LooksCon k ps t (IsCon j es) (whole w)
      another : {k j : ℕ} {ps : Shapes} {t : Term} {es : List Elim} → j ≢ k → eta_family g j ≡ None → LooksCon k ps t (IsCon j es) (Halts Clash)
      -- such a term has not the pattern's type
      a_record : {k j d : ℕ} {ps : Shapes} {t : Term} {es : List Elim} → j ≢ k → eta_family g j ≡ Some d → LooksCon k ps t (IsCon j es) (Halts Unable)
      no_con : {k : ℕ} {ps : Shapes} {t : Term} (f : Face) → Faces s t [] f → LooksCon k ps t NoCon (Halts (at_variable At f))

    -- the constructor of record d on a term
    pub data LooksRecord : ℕ → Shapes → Term → RecordFace → Look → Type 0 where
      unknown : {d i : ℕ} {ps : Shapes} {t : Term} → LooksRecord d ps t (Unknown i) (Halts (RecordAt i))
      itself : {d : ℕ} {ps : Shapes} {t : Term} {us : List Term} {w : Look} → LooksAll ps (as_args us) w → LooksRecord d ps t (Itself us) (whole w)
      through : {d : ℕ} {ps : Shapes} {t : Term} {w : Look} → LooksAll ps (as_args (projections g d t)) w → LooksRecord d ps t Through (whole w)

    -- the first pattern that does not match decides
    pub data LooksAll : Shapes → List Elim → Look → Type 0 where
      end : {ps : Shapes} → LooksAll ps [] (Yes [] ps)
      too_many : {e : Elim} {es : List Elim} → LooksAll NoShape (e ∷ es) (Halts Odd)
      arg : {p : Shape} {ps rs : Shapes} {b : Flag} {t : Term} {es : List Elim} {σ : Bound} {w : Look} → Looks p t (Yes σ rs) → LooksAll ps es w → LooksAll (AndShape p ps) (Arg b t ∷ es) (after σ w)
      arg_halts : {p : Shape} {ps : Shapes} {b : Flag} {t : Term} {es : List Elim} {y : Why} → Looks p t (Halts y) → LooksAll (AndShape p ps) (Arg b t ∷ es) (Halts y)
      field : {f h : ℕ} {ps : Shapes} {es : List Elim} {w : Look} → h ≡ f → LooksAll ps es w → LooksAll (AndShape (OfField f) ps) (Field h ∷ es) w
      other_field : {f h : ℕ} {ps : Shapes} {es : List Elim} → h ≢ f → LooksAll (AndShape (OfField f) ps) (Field h ∷ es) (Halts Clash)
      no_field : {p : Shape} {h : ℕ} {ps : Shapes} {es : List Elim} → IsArg p → LooksAll (AndShape p ps) (Field h ∷ es) (Halts Odd)
