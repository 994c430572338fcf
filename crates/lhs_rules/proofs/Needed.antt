-- What the table of needs says of the head form of a type, and of what stands next.
use Rattle.std.proofs.Common.{◌≡◌, refl}
use Rattle.std.specs.Prelude.{ℕ, List, [], ◌∷◌, Option, Some, None, Bool, true, false, eqb, cond}
use Rattle.core_rules.specs.declared.Flag.TheVariants as flag
use Rattle.core_rules.specs.Term.{Term, Var, Sort, Pi, Lam, App, Def, Fam, Con, Proj, Meta}
use Rattle.core_rules.specs.Signature.{Signature}
use Rattle.core_rules.specs.Elimination.{Elim, elims}
use Rattle.core_rules.specs.Heads.{Answer, Form, Blocked}
use Rattle.need_rules.specs.Needs.{Next, Plain, Braces, Named, Field, OwnField, own_field, Need, Explicit, Given, Insert, Project, End, NotAFunction, NotARecord, NoSuchName, Waits, project, misplaced, explicit_need, implicit_need, family_need, need}

module _ {E : Type 0} where
  -- what stands next holds
  abbrev pub held_of : Next E → Option E
  held_of (Plain e) = Some e
  held_of (Braces e) = Some e
  held_of (Named x e) = Some e
  held_of (Field f) = None

module _ (E : Type 0) (g : Signature Term) where
  -- an argument is for the variable of a function type, and is what stands next where nothing is inserted; a field is one of the record
  abbrev pub NeedIs : Answer → Next E → Need E → Type 0
  NeedIs w n (Explicit e a b) = (held_of n ≡ Some e) × (x : ℕ) × (w ≡ Form (Pi flag.Explicit x a b) [])
  NeedIs w n (Given e a b) = (held_of n ≡ Some e) × (x : ℕ) × (w ≡ Form (Pi flag.Implicit x a b) [])
  NeedIs w n (Insert a b) = (x : ℕ) × (w ≡ Form (Pi flag.Implicit x a b) [])
  NeedIs w n (Project is) = (h : ℕ) × (n ≡ Field h) × (d : ℕ) × (es : List Elim) × (w ≡ Form (Fam d) es) × (own_field g d es h ≡ Some is)
  NeedIs w n End = Unit {0}
  NeedIs w n (NotAFunction t) = Unit {0}
  NeedIs w n (NotARecord t) = Unit {0}
  NeedIs w n NoSuchName = Unit {0}
  NeedIs w n (Waits k) = Unit {0}

  misplaced_is : (w : Answer) (t : Term) (n : Next E) → NeedIs w n (misplaced t n)
  misplaced_is w t (Plain e) = tt
  misplaced_is w t (Braces e) = tt
  misplaced_is w t (Named x e) = tt
  misplaced_is w t (Field f) = tt

  explicit_is : (x : ℕ) (t a b : Term) (n : Next E) → NeedIs (Form (Pi flag.Explicit x a b) []) n (explicit_need t a b n)
  explicit_is x t a b (Plain e) = (refl, x, refl)
  explicit_is x t a b (Braces e) = tt
  explicit_is x t a b (Named y e) = tt
  explicit_is x t a b (Field f) = tt

  implicit_is : (x : ℕ) (a b : Term) (n : Next E) → NeedIs (Form (Pi flag.Implicit x a b) []) n (implicit_need x a b n)
  implicit_is x a b (Plain e) = (x, refl)
  implicit_is x a b (Braces e) = (refl, x, refl)
  implicit_is x a b (Named y e) = by_name (eqb y x)
    where
      by_name : (c : Bool) → NeedIs (Form (Pi flag.Implicit x a b) []) (Named y e) (cond c (Given e a b) (Insert a b))
      by_name true = (refl, x, refl)
      by_name false = (x, refl)
  implicit_is x a b (Field f) = (x, refl)

  field_is : (d f : ℕ) (es : List Elim) (o : Option OwnField) → own_field g d es f ≡ o → NeedIs (Form (Fam d) es) (Field f) (project (elims (Fam d) es) o)
  field_is d f es None p = tt
  field_is d f es (Some is) p = (f, refl, d, es, refl, p)

  family_is : (d : ℕ) (es : List Elim) (n : Next E) → NeedIs (Form (Fam d) es) n (family_need g d es n)
  family_is d es (Plain e) = tt
  family_is d es (Braces e) = tt
  family_is d es (Named x e) = tt
  family_is d es (Field f) = field_is d f es (own_field g d es f) refl

  pub need_is : (w : Answer) (n : Next E) → NeedIs w n (need g w n)
  need_is (Form (Pi flag.Explicit x a b) []) n = explicit_is x (Pi flag.Explicit x a b) a b n
  need_is (Form (Pi flag.Implicit x a b) []) n = implicit_is x a b n
  need_is (Form (Pi flag.Explicit x a b) (e ∷ es)) n = misplaced_is (Form (Pi flag.Explicit x a b) (e ∷ es)) (elims (Pi flag.Explicit x a b) (e ∷ es)) n
  need_is (Form (Pi flag.Implicit x a b) (e ∷ es)) n = misplaced_is (Form (Pi flag.Implicit x a b) (e ∷ es)) (elims (Pi flag.Implicit x a b) (e ∷ es)) n
  need_is (Form (Fam d) es) n = family_is d es n
  need_is (Form (Var i) es) n = misplaced_is (Form (Var i) es) (elims (Var i) es) n
  need_is (Form (Sort l) es) n = misplaced_is (Form (Sort l) es) (elims (Sort l) es) n
  need_is (Form (Lam b x a t) es) n = misplaced_is (Form (Lam b x a t) es) (elims (Lam b x a t) es) n
  need_is (Form (App b t u) es) n = misplaced_is (Form (App b t u) es) (elims (App b t u) es) n
  need_is (Form (Def f) es) n = misplaced_is (Form (Def f) es) (elims (Def f) es) n
  need_is (Form (Con k ts) es) n = misplaced_is (Form (Con k ts) es) (elims (Con k ts) es) n
  need_is (Form (Proj f t) es) n = misplaced_is (Form (Proj f t) es) (elims (Proj f t) es) n
  need_is (Form (Meta m ts) es) n = misplaced_is (Form (Meta m ts) es) (elims (Meta m ts) es) n
  need_is (Blocked m h es) n = tt
