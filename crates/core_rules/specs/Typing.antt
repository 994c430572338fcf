-- When a term has a type in a context over a signature, when a context is well formed, and when an environment fits one.
use Rattle.std.specs.Prelude.{◌≡◌, ℕ, ◌+◌, max, List, [], ◌∷◌, ◌++◌, length, reverse, take, slice_get, Some}
use Rattle.core_rules.specs.declared.Flag.{Flag}
use Rattle.core_rules.specs.Term.{Term, Terms, Var, Sort, Pi, Lam, App, Def, Fam, Con, Proj, env_of}
use Rattle.core_rules.specs.Substitution.{shift, subst, under}
use Rattle.core_rules.specs.Signature.{Entry, Context, onto, Signature, FamDecl, ConDecl, def_type, fam_decl, con_place, field_place}
use Rattle.core_rules.specs.Elimination.{elims, args, projections, fam_type, con_type}
use Rattle.core_rules.specs.Conversion.{Conv}

abbrev pub entry : Flag → ℕ → Term → Entry Term
entry b x a = record { name = x; flag = b; ty = a }

-- k is constructor number `at` of family `fam`
pub record IsCon (g : Signature Term) (k : ℕ) : Type 0 where
  pub fam : ℕ
  pub at : ℕ
  pub decl : FamDecl Term
  pub con : ConDecl Term
  pub place : con_place g k ≡ Some (fam, at)
  pub is_decl : fam_decl g fam ≡ Some decl
  pub is_con : slice_get decl.cons at ≡ Some con

-- f is field number `at` of record `fam`
pub record IsField (g : Signature Term) (f : ℕ) : Type 0 where
  pub fam : ℕ
  pub at : ℕ
  pub decl : FamDecl Term
  pub entry : Entry Term
  pub place : field_place g f ≡ Some (fam, at)
  pub is_decl : fam_decl g fam ≡ Some decl
  pub is_entry : slice_get decl.fields at ≡ Some entry

-- what the type of the field stands under, where t has the record's type at the parameters ps: these and the fields of t before it
abbrev pub field_env : (g : Signature Term) (f : ℕ) → IsField g f → List Term → Term → List Term
field_env g f is ps t = reverse (ps ++ take is.at (projections g is.fam t))

mutual
  pub data Typing (g : Signature Term) : Context Term → Term → Term → Type 0 where
    var : {c : Context Term} {i : ℕ} {e : Entry Term} → slice_get c i ≡ Some e → Typing g c (Var i) (shift e.ty 0 (i + 1))
    sort : {c : Context Term} {n : ℕ} → Typing g c (Sort n) (Sort (n + 1))
    pi : {c : Context Term} {b : Flag} {x m n : ℕ} {s t : Term} → Typing g c s (Sort m) → Typing g (entry b x s ∷ c) t (Sort n) → Typing g c (Pi b x s t) (Sort (max m n))
    lam : {c : Context Term} {b : Flag} {x y m : ℕ} {s t u : Term} → Typing g c s (Sort m) → Typing g (entry b x s ∷ c) t u → Typing g c (Lam b x s t) (Pi b y s u)
    app : {c : Context Term} {b : Flag} {x : ℕ} {s t u v : Term} → Typing g c t (Pi b x s v) → Typing g c u s → Typing g c (App b t u) (subst v 0 u)
    def : {c : Context Term} {f : ℕ} {a : Term} → def_type g f ≡ Some a → Typing g c (Def f) a
    fam : {c : Context Term} {d : ℕ} {decl : FamDecl Term} → fam_decl g d ≡ Some decl → Typing g c (Fam d) (fam_type decl)
    con : {c : Context Term} {k : ℕ} {ps : Terms} (is : IsCon g k) → Fits g c (env_of ps) (onto is.decl.params []) → Typing g c (Con k ps) (under (env_of ps) (con_type is.fam is.decl is.con))
    proj : {c : Context Term} {f : ℕ} {t : Term} (is : IsField g f) (ps : List Term) → length ps ≡ length is.decl.params → Typing g c t (elims (Fam is.fam) (args is.decl.params ps))
        → Typing g c (Proj f t) (under (field_env g f is ps t) is.entry.ty)
    -- nothing is asked of the type a: not even that it is one
    convert : {c : Context Term} {t s a : Term} → Typing g c t s → Conv g s a → Typing g c t a

  -- the environment r fits the second context in the first: each of its terms has its entry's type under the terms after it in r
  pub data Fits (g : Signature Term) : Context Term → List Term → Context Term → Type 0 where
    none : {c : Context Term} → Fits g c [] []
    more : {c es : Context Term} {r : List Term} {e : Entry Term} {t : Term} → Fits g c r es → Typing g c t (under r e.ty) → Fits g c (t ∷ r) (e ∷ es)

pub record HasSort (g : Signature Term) (c : Context Term) (a : Term) : Type 0 where
  pub level : ℕ
  pub holds : Typing g c a (Sort level)

-- each entry has a sort in those before it
pub data WellFormed (g : Signature Term) : Context Term → Type 0 where
  empty : WellFormed g []
  extended : {c : Context Term} {e : Entry Term} → WellFormed g c → HasSort g c e.ty → WellFormed g (e ∷ c)
