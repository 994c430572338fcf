-- What a family is at which a constructor can be put, and what a field of a record is.
use Rattle.std.proofs.Common.{◌≡◌, ◌∙◌, refl, sym, ap, eqb-true}
use Rattle.std.specs.Prelude.{ℕ, ◌++◌, Bool, true, false, not, ◌&&◌, eqb, cond, List, length, take, drop, slice_get, Option, Some, None, option_map, option_and_then}
use Rattle.core_rules.specs.Term.{Term, Var, Sort, Pi, Lam, App, Def, Fam, Con, Proj, Meta}
use Rattle.core_rules.specs.Signature.{Signature, ConDecl, FamDecl, fam_decl, con_place, con_decl, field_place}
use Rattle.core_rules.specs.Elimination.{Elim}
use Rattle.core_rules.specs.Heads.{Answer, Form, Blocked}
use Rattle.core_rules.specs.Typing.{IsCon, IsField}
use Rattle.kernel_rules.specs.TermReading.{arguments_for}
use Rattle.need_rules.specs.Needs.{OwnField, own_field}
use Rattle.lhs_rules.specs.Families.{AtFamily, at_arguments, at_family, AtCon, with_own, at_con}

-- ---- options

then_some : {A B : Type 0} (o : Option A) (k : A → Option B) (y : B) → option_and_then k o ≡ Some y → (x : A) × (o ≡ Some x) × (k x ≡ Some y)
then_some None k y e = absurd cc
then_some (Some x) k y e = (x, refl, e)

mapped_some : {A B : Type 0} (o : Option A) (f : A → B) (y : B) → option_map f o ≡ Some y → (x : A) × (o ≡ Some x) × (f x ≡ y)
mapped_some None f y e = absurd cc
mapped_some (Some x) f y e = (x, refl, cc e)

tested_some : {A : Type 0} (b : Bool) (o : Option A) (x : A) → cond b o None ≡ Some x → (b ≡ true) × (o ≡ Some x)
tested_some true o x e = (refl, e)
tested_some false o x e = absurd cc

both_true : (b c : Bool) → (b && c) ≡ true → (b ≡ true) × (c ≡ true)
both_true true c e = (refl, e)
both_true false c e = absurd cc

not_true : (b : Bool) → not b ≡ true → b ≡ false
not_true true e = absurd cc
not_true false e = refl

module _ (g : Signature Term) where
  -- the head form is family a at us, which are its parameters and indices
  pub record FamilyIs (a : AtFamily) (w : Answer) : Type 0 where
    pub all : List Term
    pub elims : List Elim
    pub head : w ≡ Form (Fam a.fam) elims
    pub is_decl : fam_decl g a.fam ≡ Some a.decl
    pub arguments : arguments_for (a.decl.params ++ a.decl.indices) elims ≡ Some all
    pub params : a.params ≡ take (length a.decl.params) all
    pub indices : a.indices ≡ drop (length a.decl.params) all

  pub family_is : (w : Answer) (a : AtFamily) → at_family g w ≡ Some a → FamilyIs a w
  family_is (Form (Fam d) es) a e =
      let x = then_some (fam_decl g d) (λ decl. option_map (at_arguments d decl) (arguments_for (decl.params ++ decl.indices) es)) a e in
      let y = mapped_some (arguments_for (x.0.params ++ x.0.indices) es) (at_arguments d x.0) a x.2 in
      rw (← y.2) (record { all = y.0; elims = es; head = refl; is_decl = x.1; arguments = y.1; params = refl; indices = refl })
  family_is (Form (Var i) es) a e = absurd cc
  family_is (Form (Sort l) es) a e = absurd cc
  family_is (Form (Pi b x s t) es) a e = absurd cc
  family_is (Form (Lam b x s t) es) a e = absurd cc
  family_is (Form (App b t u) es) a e = absurd cc
  family_is (Form (Def f) es) a e = absurd cc
  family_is (Form (Con k ts) es) a e = absurd cc
  family_is (Form (Proj f t) es) a e = absurd cc
  family_is (Form (Meta m ts) es) a e = absurd cc
  family_is (Blocked m h es) a e = absurd cc

  -- constructor k, number `number` of the family
  pub record AtConIs (k : ℕ) (a : AtCon) (w : Answer) : Type 0 where
    pub family : FamilyIs a.at w
    pub number : ℕ
    pub place : con_place g k ≡ Some (a.at.fam, number)
    pub is_con : slice_get a.at.decl.cons number ≡ Some a.con
    pub inductive : a.at.decl.coinductive ≡ false

  pub at_con_is : (k : ℕ) (w : Answer) (a : AtCon) → at_con g k w ≡ Some a → AtConIs k a w
  at_con_is k w a e =
      let x = then_some (at_family g w) (with_own g k) a e in
      let y = then_some (con_place g k) (λ p. cond (eqb p.0 x.0.fam && not x.0.decl.coinductive) (option_map (λ c. record { at = x.0; con = c }) (con_decl g k)) None) a x.2 in
      let z = tested_some (eqb y.0.0 x.0.fam && not x.0.decl.coinductive) (option_map (λ c. record { at = x.0; con = c }) (con_decl g k)) a y.2 in
      let c = mapped_some (con_decl g k) (λ (c : ConDecl Term). record { at = x.0; con = c }) a z.1 in
      let b = both_true (eqb y.0.0 x.0.fam) (not x.0.decl.coinductive) z.0 in
      let f = family_is w x.0 x.1 in
      let same : y.0.0 ≡ x.0.fam = eqb-true y.0.0 x.0.fam b.0 in
      let own : fam_decl g y.0.0 ≡ Some x.0.decl = ap (fam_decl g) same ∙ f.is_decl in
      let is : con_decl g k ≡ slice_get x.0.decl.cons y.0.1 =
      ap (option_and_then (λ p. option_and_then (λ (d : FamDecl Term). slice_get d.cons p.1) (fam_decl g p.0))) y.1 ∙ ap (option_and_then (λ (d : FamDecl Term). slice_get d.cons y.0.1)) own in
      rw (← c.2) (record { family = f; number = y.0.1; place = y.1 ∙ ap (λ d. Some (d, y.0.1)) same; is_con = sym is ∙ c.1; inductive = not_true x.0.decl.coinductive b.1 })

  pub con_of : (k : ℕ) (a : AtCon) (w : Answer) → AtConIs k a w → IsCon g k
  con_of k a w h = record { fam = a.at.fam; at = h.number; decl = a.at.decl; con = a.con; place = h.place; is_decl = h.family.is_decl; is_con = h.is_con }

  abbrev pub field_at : (h : ℕ) → IsField g h → List Term → OwnField
  field_at h x ps = record { field = h; fam = x.fam; at = x.at; params = ps; ty = x.entry.ty }

  -- field h of the record that is family d at es
  pub record OwnFieldIs (d : ℕ) (es : List Elim) (h : ℕ) (is : OwnField) : Type 0 where
    pub field : IsField g h
    pub params : List Term
    pub are : is ≡ field_at h field params
    pub same : field.fam ≡ d
    pub arguments : arguments_for field.decl.params es ≡ Some params

  pub own_field_is : (d : ℕ) (es : List Elim) (h : ℕ) (is : OwnField) → own_field g d es h ≡ Some is → OwnFieldIs d es h is
  own_field_is d es h is e =
      let x = then_some (field_place g h) (λ p. option_and_then (λ decl. option_and_then (λ e.
      cond (eqb p.0 d) (option_map (λ ps. record { field = h; fam = p.0; at = p.1; params = ps; ty = e.ty }) (arguments_for decl.params es)) None)
      (slice_get decl.fields p.1)) (fam_decl g p.0)) is e in
      let y = then_some (fam_decl g x.0.0) (λ decl. option_and_then (λ e.
      cond (eqb x.0.0 d) (option_map (λ ps. record { field = h; fam = x.0.0; at = x.0.1; params = ps; ty = e.ty }) (arguments_for decl.params es)) None)
      (slice_get decl.fields x.0.1)) is x.2 in
      let z = then_some (slice_get y.0.fields x.0.1) (λ e.
      cond (eqb x.0.0 d) (option_map (λ ps. record { field = h; fam = x.0.0; at = x.0.1; params = ps; ty = e.ty }) (arguments_for y.0.params es)) None) is y.2 in
      let b = tested_some (eqb x.0.0 d) (option_map (λ ps. record { field = h; fam = x.0.0; at = x.0.1; params = ps; ty = z.0.ty }) (arguments_for y.0.params es)) is z.2 in
      let c = mapped_some (arguments_for y.0.params es) (λ (ps : List Term). record { field = h; fam = x.0.0; at = x.0.1; params = ps; ty = z.0.ty }) is b.1 in
      record {
        field = record { fam = x.0.0; at = x.0.1; decl = y.0; entry = z.0; place = x.1; is_decl = y.1; is_entry = z.1 };
        params = c.0;
        are = sym c.2;
        same = eqb-true x.0.0 d b.0;
        arguments = c.1;
      }
