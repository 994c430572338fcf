-- The constructor of a record has an argument for each field, and the projection rule gives these.
use Rattle.std.specs.Prelude.{◌≡◌, ℕ, Bool, true, false, ◌&&◌, eqb, cond, List, [], ◌∷◌, length, map, get_or, slice_get, Option, Some, None, option_and_then, refl, zero, suc}
use Rattle.std.specs.Option.{option_map_or}
use Rattle.std.proofs.Common.{ap, sym, ◌∙◌, subst, arith}
use Rattle.std.proofs.lemmas.Grind.{common_steps}
use Rattle.std.proofs.lemmas.Option.{slice_get_within}
use Rattle.core_rules.specs.Term.{Term}
use Rattle.core_rules.specs.Signature.{Signature, FamDecl, ConDecl, fam_decl, fams, con_place, con_decl, fields_of}
use Rattle.core_rules.specs.Run.{ConApp, con_app, takes, is_record_con, full_con}
use Rattle.core_rules.specs.Conversion.{IsArgument}
use Rattle.core_rules.specs.InScope.{IsRecordShape, FamiliesHaveShape}
use Rattle.core_rules.proofs.Signature.Places.{field-place, length-fields_of}

-- the value of an option, with what a test or a function says of it
pub record IsValue {X : Type 0} (o : Option X) (P : X → Type 0) : Type 0 where
  pub value : X
  pub is : o ≡ Some value
  pub holds : P value

pub passes : {X : Type 0} (h : X → Bool) (o : Option X) → option_map_or h o false ≡ true → IsValue o (λ x. h x ≡ true)
passes h None e = absurd cc
passes h (Some x) e = record { value = x; is = refl; holds = e }

pub goes_on : {X Y : Type 0} (h : X → Option Y) (o : Option X) (y : Y) → option_and_then h o ≡ Some y → IsValue o (λ x. h x ≡ Some y)
goes_on h None y e = absurd cc
goes_on h (Some x) y e = record { value = x; is = refl; holds = e }

pub both_true : (a b : Bool) → a && b ≡ true → (a ≡ true) × (b ≡ true)
both_true true true e = (refl, refl)
both_true true false e = absurd cc
both_true false b e = absurd cc

pub test_passed : (b : Bool) (s c : ConApp) → cond b (Some s) None ≡ Some c → (b ≡ true) × (s ≡ c)
test_passed true s c e = (refl, cc e)
test_passed false s c e = absurd cc

-- a constructor with all its arguments takes as many as it has
pub full-takes : (g : Signature Term) (t : Term) (s : ConApp) → full_con g t ≡ Some s → takes g s.con (length s.args) ≡ true
full-takes g t s e =
    let v = goes_on (λ s. cond (takes g s.con (length s.args)) (Some s) None) (con_app t []) s e in
    let p = test_passed (takes g v.value.con (length v.value.args)) v.value s v.holds in
    subst (λ s. takes g s.con (length s.args) ≡ true) p.1 p.0

one_con : (con c : ConDecl Term) (i : ℕ) → slice_get (con ∷ []) i ≡ Some c → (i ≡ 0) × (con ≡ c)
one_con con c zero e = (refl, cc e)
one_con con c (suc i) e = absurd cc

counted : (ds : List (FamDecl Term)) (n : ℕ) (d : FamDecl Term) → slice_get ds n ≡ Some d → get_or (map (λ d. length d.fields) ds) n 0 ≡ length d.fields
counted [] n d e = absurd cc
counted (x ∷ ds) zero d e = ap (λ o. option_map_or (λ d. length d.fields) o 0) e
counted (x ∷ ds) (suc n) d e = counted ds n d e

-- what it says of a constructor with all its arguments that it is the one of record n
pub record IsRecordTerm (g : Signature Term) (n : ℕ) (s : ConApp) : Type 0 where
  pub place : con_place g s.con ≡ Some (n, 0)
  pub as_many : length (fields_of g n) ≡ length s.args

pair_of : (p q : ℕ × ℕ) → Some p ≡ Some q → p.0 ≡ q.0
pair_of p q e = ap (λ o. option_map_or (λ p. p.0) o 0) e

same_number : (m n : ℕ) → eqb m n ≡ true → m ≡ n
same_number m n e = grind (arith, common_steps)

same_family : (g : Signature Term) (m n : ℕ) (d e : FamDecl Term) → m ≡ n → fam_decl g m ≡ Some d → fam_decl g n ≡ Some e → d ≡ e
same_family g m n d e p h k = cc (p, h, k)

module _ (g : Signature Term) (n : ℕ) (s : ConApp) (k : ConDecl Term) (p : ℕ × ℕ) (d : FamDecl Term) where
  by_shape : IsRecordShape d → con_place g s.con ≡ Some p → p.0 ≡ n → fam_decl g n ≡ Some d → slice_get d.cons p.1 ≡ Some k → length k.args ≡ length s.args → IsRecordTerm g n s
  by_shape shape place own fam con count =
      let o = one_con shape.con k p.1 (rw (← shape.cons) con) in
      let fields : length d.fields ≡ length s.args = ap length (sym shape.args) ∙ (ap (λ c. length c.args) o.1 ∙ count) in
      record {
        place = place ∙ (λ i. Some (own i, o.0 i));
        as_many = length-fields_of g n ∙ (counted (fams g) n d fam ∙ fields);
      }

pub record_term : (g : Signature Term) (shapes : FamiliesHaveShape g) (n : ℕ) (t : Term) (s : ConApp) → full_con g t ≡ Some s → is_record_con g s.con n ≡ true → IsRecordTerm g n s
record_term g shapes n t s full own =
    let k = passes (λ c. eqb (length c.args) (length s.args)) (con_decl g s.con) (full-takes g t s full) in
    let p = goes_on (λ p. option_and_then (λ d. slice_get d.cons p.1) (fam_decl g p.0)) (con_place g s.con) k.value k.is in
    let d = goes_on (λ d. slice_get d.cons p.value.1) (fam_decl g p.value.0) k.value p.holds in
    let o = both_true (option_map_or (λ p. eqb p.0 n) (con_place g s.con) false) (option_map_or (λ decl. decl.is_record) (fam_decl g n) false) own in
    let q = passes (λ p. eqb p.0 n) (con_place g s.con) o.0 in
    let r = passes (λ decl. decl.is_record) (fam_decl g n) o.1 in
    let m : p.value.0 ≡ n = pair_of p.value q.value (sym p.is ∙ q.is) ∙ same_number q.value.0 n q.holds in
    let f : d.value ≡ r.value = same_family g p.value.0 n d.value r.value m d.is r.is in
    by_shape g n s k.value p.value d.value ((shapes n d.value (rw f r.is)).of_record (rw f r.holds)) p.is m (rw f r.is) d.holds (same_number (length k.value.args) (length s.args) k.holds)

-- the projection to a field from a record's constructor with all its arguments is the argument at its place
pub argument : (g : Signature Term) (n : ℕ) (t : Term) (s : ConApp) → full_con g t ≡ Some s → IsRecordTerm g n s → (i k : ℕ) (u : Term) → slice_get (fields_of g n) i ≡ Some k → slice_get s.args i ≡ Some u → IsArgument g k t u
argument g n t s full is i k u h e = record {
  fam = n;
  at = i;
  con = s;
  place = field-place g n i k (slice_get_within (fields_of g n) i k h) h;
  full = full;
  own = is.place;
  is = e;
}
