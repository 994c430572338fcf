-- What a term itself is, under a change of its variables.
use Rattle.std.specs.Prelude.{◌≡◌, ℕ, Bool, true, false, ◌&&◌, eqb, cond, List, [], ◌∷◌, ◌++◌, map, Option, Some, None, option_map, option_and_then, refl}
use Rattle.std.proofs.Common.{ap, ◌∙◌}
use Rattle.core_rules.specs.declared.Flag.TheVariants.{Explicit}
use Rattle.core_rules.specs.Term.{Term, Terms, Var, Sort, Pi, Lam, App, Def, Fam, Con, Proj, Meta}
use Rattle.core_rules.specs.Substitution.{over}
use Rattle.core_rules.specs.Signature.{Signature, Telescope, ConDecl, FamDecl, con_place, con_decl, fam_decl}
use Rattle.core_rules.specs.Elimination.{Elim, Arg, Field, elims, elims_over}
use Rattle.core_rules.specs.Heads as H
use Rattle.core_rules.specs.Heads.{Form, Heads}
use Rattle.core_rules.specs.Bounded.{same_flag, RecordValue}
use Rattle.core_rules.specs.BoundedLaws.{no_solutions}
use Rattle.match_rules.specs.Matching.{as_args}
use Rattle.cover_rules.specs.Flagged.{flagged, flagged_value}
use Rattle.cover_rules.specs.Looking as L
use Rattle.cover_rules.specs.Looking.{Face, Variable, Neutral, Constructor, Another, IsOther, Faces, RecordFace, Unknown, Itself, Through, itself_at, record_face}

-- a head that is a variable
abbrev pub IsVariable : Face → Type 0
IsVariable (Variable i) = Unit {0}
IsVariable Neutral = Unit {0}
IsVariable (Constructor k es) = ⊥
IsVariable Another = ⊥

module _ (g : Signature Term) where
  -- such a term comes to no constructor
  pub no_head : {t : Term} {es ds : List Elim} {k n : ℕ} {ps : Terms} {f : Face} → Faces no_solutions t es f → IsVariable f → Heads g no_solutions t es (Form (Con k ps) ds) n → ⊥
  no_head L.variable v h = elim h [ ]
  no_head L.constructor v h = v
  no_head (L.argument f) v (H.argument h) = no_head f v h
  no_head (L.projection f) v (H.projection h) = no_head f v h
  no_head (L.solved e f) v h = absurd cc
  no_head (L.unsolved e) v h = v
  no_head (L.other p) v h = v

-- a term that is a variable
abbrev pub IsThat : Term → List Elim → Face → Type 0
IsThat t es (Variable i) = elims t es ≡ Var i
IsThat t es Neutral = Unit {0}
IsThat t es (Constructor k ds) = (ps : Terms) × (elims t es ≡ elims (Con k ps) ds)
IsThat t es Another = Unit {0}

var_is : (i : ℕ) (es : List Elim) → IsThat (Var i) es (L.var_face i es)
var_is i [] = refl
var_is i (e ∷ es) = tt

pub is_that : {t : Term} {es : List Elim} (f : Face) → Faces no_solutions t es f → IsThat t es f
is_that f (L.variable {i = i} {es = es}) = var_is i es
is_that f (L.constructor {ps = ps}) = (ps, refl)
is_that (Variable i) (L.argument h) = is_that (Variable i) h
is_that Neutral (L.argument h) = tt
is_that (Constructor k ds) (L.argument h) = is_that (Constructor k ds) h
is_that Another (L.argument h) = tt
is_that (Variable i) (L.projection h) = is_that (Variable i) h
is_that Neutral (L.projection h) = tt
is_that (Constructor k ds) (L.projection h) = is_that (Constructor k ds) h
is_that Another (L.projection h) = tt
is_that f (L.solved e h) = absurd cc
is_that f (L.unsolved e) = tt
is_that f (L.other p) = tt

pub variable_is : {t : Term} {i : ℕ} → Faces no_solutions t [] (Variable i) → t ≡ Var i
variable_is {i = i} f = is_that (Variable i) f

-- a term under eliminations, and those of its own
pub faces_out : {f : Face} (t : Term) (ds : List Elim) {es : List Elim} → Faces no_solutions t (ds ++ es) f → Faces no_solutions (elims t ds) es f
faces_out t [] f = f
faces_out t (Arg b u ∷ ds) f = faces_out (App b t u) ds (L.argument f)
faces_out t (Field k ∷ ds) f = faces_out (Proj k t) ds (L.projection f)

-- a variable under eliminations has more of them
abbrev More : Term → List Elim → Elim → Face → Type 0
More t es e Neutral = Faces no_solutions t (es ++ e ∷ []) Neutral
More t es e _ = Unit {0}

var_more : (i : ℕ) (es : List Elim) (e : Elim) → More (Var i) es e (L.var_face i es)
var_more i [] e = tt
var_more i (d ∷ es) e = L.variable

neutral_more : {t : Term} {es : List Elim} (f : Face) (e : Elim) → Faces no_solutions t es f → More t es e f
neutral_more f e (L.variable {i = i} {es = es}) = var_more i es e
neutral_more f e L.constructor = tt
neutral_more (Variable i) e (L.argument h) = tt
neutral_more Neutral e (L.argument h) = L.argument (neutral_more Neutral e h)
neutral_more (Constructor k ds) e (L.argument h) = tt
neutral_more Another e (L.argument h) = tt
neutral_more (Variable i) e (L.projection h) = tt
neutral_more Neutral e (L.projection h) = L.projection (neutral_more Neutral e h)
neutral_more (Constructor k ds) e (L.projection h) = tt
neutral_more Another e (L.projection h) = tt
neutral_more f e (L.solved d h) = absurd cc
neutral_more f e (L.unsolved d) = tt
neutral_more f e (L.other p) = tt

pub neutral_projection : {t : Term} (k : ℕ) → Faces no_solutions t [] Neutral → Faces no_solutions (Proj k t) [] Neutral
neutral_projection k f = L.projection (neutral_more Neutral (Field k) f)

module _ (f : ℕ → ℕ → Term) (d : ℕ) where
  pub args-over : (us : List Term) → elims_over f d (as_args us) ≡ as_args (map (over f d) us)
  args-over [] = refl
  args-over (u ∷ us) = ap (λ es. Arg Explicit (over f d u) ∷ es) (args-over us)

  other-over : (t : Term) → IsOther t → IsOther (over f d t)
  other-over (Var i) p = absurd p
  other-over (Sort n) p = tt
  other-over (Pi b x a t) p = tt
  other-over (Lam b x a t) p = tt
  other-over (App b t u) p = p
  other-over (Def k) p = tt
  other-over (Fam k) p = tt
  other-over (Con k ts) p = p
  other-over (Proj k t) p = p
  other-over (Meta m ts) p = p

  -- a constructor stays, and so does what is neither a variable nor a constructor
  abbrev Stays : Term → List Elim → Face → Type 0
  Stays t es (Variable i) = Unit {0}
  Stays t es Neutral = Unit {0}
  Stays t es (Constructor k ds) = Faces no_solutions (over f d t) (elims_over f d es) (Constructor k (elims_over f d ds))
  Stays t es Another = Faces no_solutions (over f d t) (elims_over f d es) Another

  var_stays : (i : ℕ) (es : List Elim) → Stays (Var i) es (L.var_face i es)
  var_stays i [] = tt
  var_stays i (e ∷ es) = tt

  pub stays : {t : Term} {es : List Elim} (w : Face) → Faces no_solutions t es w → Stays t es w
  stays w (L.variable {i = i} {es = es}) = var_stays i es
  stays w L.constructor = L.constructor
  stays (Variable i) (L.argument h) = tt
  stays Neutral (L.argument h) = tt
  stays (Constructor k ds) (L.argument h) = L.argument (stays (Constructor k ds) h)
  stays Another (L.argument h) = L.argument (stays Another h)
  stays (Variable i) (L.projection h) = tt
  stays Neutral (L.projection h) = tt
  stays (Constructor k ds) (L.projection h) = L.projection (stays (Constructor k ds) h)
  stays Another (L.projection h) = L.projection (stays Another h)
  stays w (L.solved e h) = absurd cc
  stays w (L.unsolved e) = L.unsolved refl
  stays w (L.other {h = t} p) = L.other (other-over t p)

  flagged-over : (c : Telescope Term) (es : List Elim) → flagged c (elims_over f d es) ≡ option_map (map (over f d)) (flagged c es)
  flagged-over [] [] = refl
  flagged-over [] (e ∷ es) = refl
  flagged-over (x ∷ c) [] = refl
  flagged-over (x ∷ c) (Field k ∷ es) = refl
  flagged-over (x ∷ c) (Arg b u ∷ es) = ap (λ o. cond (same_flag x.flag b) (option_map (λ us. over f d u ∷ us) o) None) (flagged-over c es) ∙ by (same_flag x.flag b) (flagged c es)
    where
      by : (b : Bool) (o : Option (List Term)) → cond b (option_map (λ us. over f d u ∷ us) (option_map (map (over f d)) o)) None ≡ option_map (map (over f d)) (cond b (option_map (λ us. u ∷ us) o) None)
      by true None = refl
      by true (Some us) = refl
      by false o = refl

  abbrev value_over : RecordValue → RecordValue
  value_over v = record { fam = v.fam; values = map (over f d) v.values }

  abbrev of_con : ℕ × ℕ → FamDecl Term → List Elim → ConDecl Term → Option RecordValue
  of_con p a es c = cond (a.eta && eqb p.1 0) (option_map (λ us. record { fam = p.0; values = us }) (flagged c.args es)) None

  value-over : (g : Signature Term) (k : ℕ) (es : List Elim) → flagged_value g k (elims_over f d es) ≡ option_map value_over (flagged_value g k es)
  value-over g k es = by_place (con_place g k)
    where
      by_fit : (p : ℕ × ℕ) (b : Bool) (o : Option (List Term)) → ◌≡◌ {A = Option RecordValue} (cond b (option_map (λ us. record { fam = p.0; values = us }) (option_map (map (over f d)) o)) None) (option_map value_over (cond b (option_map (λ us. record { fam = p.0; values = us }) o) None))
      by_fit p true None = refl
      by_fit p true (Some us) = refl
      by_fit p false o = refl

      by_con : (p : ℕ × ℕ) (a : FamDecl Term) (o : Option (ConDecl Term)) → option_and_then (of_con p a (elims_over f d es)) o ≡ option_map value_over (option_and_then (of_con p a es) o)
      by_con p a None = refl
      by_con p a (Some c) = ap (λ o. cond (a.eta && eqb p.1 0) (option_map (λ us. record { fam = p.0; values = us }) o) None) (flagged-over c.args es) ∙ by_fit p (a.eta && eqb p.1 0) (flagged c.args es)

      by_family : (p : ℕ × ℕ) (o : Option (FamDecl Term)) → option_and_then (λ a. option_and_then (of_con p a (elims_over f d es)) (con_decl g k)) o ≡ option_map value_over (option_and_then (λ a. option_and_then (of_con p a es) (con_decl g k)) o)
      by_family p None = refl
      by_family p (Some a) = by_con p a (con_decl g k)

      by_place : (o : Option (ℕ × ℕ)) → option_and_then (λ p. option_and_then (λ a. option_and_then (of_con p a (elims_over f d es)) (con_decl g k)) (fam_decl g p.0)) o
          ≡ option_map value_over (option_and_then (λ p. option_and_then (λ a. option_and_then (of_con p a es) (con_decl g k)) (fam_decl g p.0)) o)
      by_place None = refl
      by_place (Some p) = by_family p (fam_decl g p.0)

  abbrev pub face_over : RecordFace → RecordFace
  face_over (Unknown i) = Unknown i
  face_over (Itself us) = Itself (map (over f d) us)
  face_over Through = Through

  itself-over : (e : ℕ) (o : Option RecordValue) → itself_at e (option_map value_over o) ≡ face_over (itself_at e o)
  itself-over e None = refl
  itself-over e (Some v) = by (eqb v.fam e)
    where
      by : (b : Bool) → cond b (Itself (map (over f d) v.values)) Through ≡ face_over (cond b (Itself v.values) Through)
      by true = refl
      by false = refl

  pub face-over : (g : Signature Term) (e k : ℕ) (es : List Elim) → record_face g e (Constructor k (elims_over f d es)) ≡ face_over (record_face g e (Constructor k es))
  face-over g e k es = ap (itself_at e) (value-over g k es) ∙ itself-over e (flagged_value g k es)

-- a constructor is not unknown
pub not_unknown : (g : Signature Term) (e k : ℕ) (es : List Elim) (i : ℕ) → record_face g e (Constructor k es) ≡ Unknown i → ⊥
not_unknown g e k es i q = by (flagged_value g k es) q
  where
    by_bool : (v : RecordValue) (b : Bool) → cond b (Itself v.values) Through ≡ Unknown i → ⊥
    by_bool v true q = absurd cc
    by_bool v false q = absurd cc

    by : (o : Option RecordValue) → itself_at e o ≡ Unknown i → ⊥
    by None q = absurd cc
    by (Some v) q = by_bool v (eqb v.fam e) q
