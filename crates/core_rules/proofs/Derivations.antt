-- The derivations of the examples.
use Rattle.std.specs.Prelude.{◌≡◌, ℕ, ◌+◌, ◌<◌, ◌-◌, ◌^◌, Bool, true, false, List, length, [], ◌∷◌, slice_get, Some, refl, zero, suc}
use Rattle.std.specs.List.{AllByRecursion}
use Rattle.std.proofs.Common.{ap, sym, ◌∙◌, subst, arith}
use Rattle.std.proofs.lemmas.Grind.{common_steps}
use Rattle.core_rules.specs.declared.Flag.TheVariants.{Explicit, Implicit}
use Rattle.core_rules.specs.Term.{Term, Terms, Var, Sort, Pi, App, Def, Fam, Con, Proj, End, HasNoMeta, size, And}
use Rattle.core_rules.specs.Signature.{Postulate, Family, Signature, FamDecl, Context, fam_decl, without_cons}
use Rattle.core_rules.specs.Mapped.{AllDecl}
use Rattle.core_rules.specs.Conversion as C
use Rattle.core_rules.specs.Conversion.{Conv, IsEtaCon}
use Rattle.core_rules.specs.Typing as T
use Rattle.core_rules.specs.Typing.{Typing, IsField, entry}
use Rattle.core_rules.specs.InScope.{IsDataShape, HasShape}
use Rattle.core_rules.specs.Derivable as D
use Rattle.core_rules.specs.Derivable.{Derivable, Good, GoodCon, IsWithin}
use Rattle.core_rules.specs.Examples.{postulates, nat, vec, pair, zero_con, suc_con, pair_con, pair_fields, pair_of, pair_type, families, doubled}
use Rattle.core_rules.specs.Substitution.{shift}
use Rattle.core_rules.specs.Run.{ConApp}
use Rattle.core_rules.proofs.Substitution.Lifted.{subst_shifted, subst_shifted_under, shift_none}
use Rattle.core_rules.proofs.Signature.Growth.{derivable-extended, derivable-shape}

pub derivable-empty : Derivable []
derivable-empty = record { good = λ i d h. absurd cc; no_meta = λ i d h. absurd cc }

pub postulates_derivable : (nat z p y n : ℕ) → Derivable (postulates nat z p y n)
postulates_derivable nat z p y n =
    let a : Signature Term = Postulate nat (Sort 0) ∷ [] in
    let b : Signature Term = Postulate nat (Sort 0) ∷ Postulate z (Def 0) ∷ [] in
    let c : Signature Term = Postulate nat (Sort 0) ∷ Postulate z (Def 0) ∷ Postulate p (Pi Explicit n (Def 0) (Sort 0)) ∷ [] in
    let one : Derivable a = derivable-extended [] (Postulate nat (Sort 0)) derivable-empty (D.postulate (record { level = 1; holds = T.sort })) tt in
    let two : Derivable b = derivable-extended a (Postulate z (Def 0)) one (D.postulate (record { level = 0; holds = T.def refl })) tt in
    let three : Derivable c = derivable-extended b (Postulate p (Pi Explicit n (Def 0) (Sort 0))) two (D.postulate (record { level = 1; holds = T.pi (T.def refl) T.sort })) (tt, tt) in
    let applied : Typing c [] (App Explicit (Def 2) (Def 1)) (Sort 0) = T.app {v = Sort 0} (T.def refl) (T.def refl) in
    derivable-extended c (Postulate y (App Explicit (Def 2) (Def 1))) three (D.postulate (record { level = 0; holds = applied })) (tt, tt)

-- what holds of each item of a list holds at each place
each_at : {X : Type 0} (P : X → Type 0) (xs : List X) → AllByRecursion P xs → (i : ℕ) (x : X) → slice_get xs i ≡ Some x → P x
each_at P [] h i x e = absurd cc
each_at P (y ∷ xs) h zero x e = subst P (same_item e) h.0
  where
    same_item : {X : Type 0} {x y : X} → Some x ≡ Some y → x ≡ y
    same_item e = cc e
each_at P (y ∷ xs) h (suc i) x e = each_at P xs h.1 i x e

data_shape : (d : FamDecl Term) → IsDataShape d → d.is_record ≡ false → HasShape d
data_shape d s e = record { of_data = λ _. s; of_record = λ t. absurd (false_true (sym e ∙ t)) }
  where
    false_true : false ≡ true → ⊥
    false_true h = cc h

-- Nat
abbrev nat_known : Signature Term
nat_known = Family (without_cons nat) ∷ []

nat_cons : AllByRecursion (GoodCon nat_known 0 nat) nat.cons
nat_cons = (
  record { sorted = record { level = 0; holds = T.fam refl }; as_many = refl; within = D.none },
  (record { sorted = record { level = 0; holds = T.pi {m = 0} {n = 0} (T.fam refl) (T.fam refl) }; as_many = refl; within = D.more {n = 0} (T.fam refl) (omega arith) D.none }, tt),
)

pub good_nat : Good [] (Family nat)
good_nat = D.family (record {
  shape = data_shape nat (record { fields = refl; eta = refl; coinductive = refl }) refl;
  context = T.empty;
  cons = each_at (GoodCon nat_known 0 nat) nat.cons nat_cons;
  fields = D.none;
})

-- Vec
abbrev vec_known : Signature Term
vec_known = Family nat ∷ Family (without_cons vec) ∷ []

-- Vec at a type and a number
vec_at : (c : Context Term) (a n : Term) → Typing vec_known c a (Sort 0) → Typing vec_known c n (Fam 0) → Typing vec_known c (App Explicit (App Explicit (Fam 1) a) n) (Sort 0)
vec_at c a n h k = T.app {v = Sort 0} (T.app {v = Pi Explicit 11 (Fam 0) (Sort 0)} (T.fam refl) h) k

zero_typed : (c : Context Term) → Typing vec_known c (Con 0 End) (Fam 0)
zero_typed c = T.con (record { fam = 0; at = 0; decl = nat; con = zero_con; place = refl; is_decl = refl; is_con = refl }) T.none

suc_typed : (c : Context Term) (n : Term) → Typing vec_known c n (Fam 0) → Typing vec_known c (App Explicit (Con 1 End) n) (Fam 0)
suc_typed c n h = T.app {v = Fam 0} (T.con (record { fam = 0; at = 1; decl = nat; con = suc_con; place = refl; is_decl = refl; is_con = refl }) T.none) h

-- the context of the parameter, and of the arguments of cons after it
abbrev vec_params : Context Term
vec_params = entry Explicit 10 (Sort 0) ∷ []

abbrev under_n : Context Term
under_n = entry Implicit 7 (Fam 0) ∷ vec_params

abbrev under_x : Context Term
under_x = entry Explicit 8 (Var 1) ∷ under_n

abbrev tail_type : Term
tail_type = App Explicit (App Explicit (Fam 1) (Var 2)) (Var 1)

tail_typed : Typing vec_known under_x tail_type (Sort 0)
tail_typed = vec_at under_x (Var 2) (Var 1) (T.var refl) (T.var refl)

end_typed : Typing vec_known (entry Explicit 9 tail_type ∷ under_x) (App Explicit (App Explicit (Fam 1) (Var 3)) (App Explicit (Con 1 End) (Var 2))) (Sort 0)
end_typed = vec_at (entry Explicit 9 tail_type ∷ under_x) (Var 3) (App Explicit (Con 1 End) (Var 2)) (T.var refl) (suc_typed (entry Explicit 9 tail_type ∷ under_x) (Var 2) (T.var refl))

vec_cons : AllByRecursion (GoodCon vec_known 1 vec) vec.cons
vec_cons = (
  record { sorted = record { level = 0; holds = vec_at vec_params (Var 0) (Con 0 End) (T.var refl) (zero_typed vec_params) }; as_many = refl; within = D.none },
  (
    record {
      sorted = record { level = 0; holds = T.pi {m = 0} {n = 0} (T.fam refl) (T.pi {m = 0} {n = 0} (T.var refl) (T.pi {m = 0} {n = 0} tail_typed end_typed)) };
      as_many = refl;
      within = D.more {n = 0} (T.fam refl) (omega arith) (D.more {n = 0} (T.var refl) (omega arith) (D.more {n = 0} tail_typed (omega arith) D.none));
    },
    tt,
  ),
)

pub good_vec : Good (Family nat ∷ []) (Family vec)
good_vec = D.family (record {
  shape = data_shape vec (record { fields = refl; eta = refl; coinductive = refl }) refl;
  context = T.extended (T.extended T.empty (record { level = 1; holds = T.sort })) (record { level = 0; holds = T.fam refl });
  cons = each_at (GoodCon vec_known 1 vec) vec.cons vec_cons;
  fields = D.none;
})

-- Pair
abbrev pair_known : Signature Term
pair_known = Family nat ∷ Family vec ∷ Family (without_cons pair) ∷ []

abbrev pair_params : Context Term
pair_params = entry Explicit 16 (Sort 0) ∷ entry Explicit 10 (Sort 0) ∷ []

abbrev under_fst : Context Term
under_fst = entry Explicit 12 (Var 1) ∷ pair_params

abbrev under_snd : Context Term
under_snd = entry Explicit 13 (Var 1) ∷ under_fst

pair_end : Typing pair_known under_snd (App Explicit (App Explicit (Fam 2) (Var 3)) (Var 2)) (Sort 0)
pair_end = T.app {v = Sort 0} (T.app {v = Pi Explicit 16 (Sort 0) (Sort 0)} (T.fam refl) (T.var refl)) (T.var refl)

pair_within : IsWithin pair_known 0 pair_params pair_fields
pair_within = D.more {n = 0} (T.var refl) (omega arith) (D.more {n = 0} (T.var refl) (omega arith) D.none)

pub good_pair : Good (Family nat ∷ Family vec ∷ []) (Family pair)
good_pair = D.family (record {
  shape = record {
    of_data = λ h. absurd (true_false h);
    of_record = λ _. record { indices = refl; con = pair_con; cons = refl; args = refl; some_field = λ _. omega arith; inductive = λ _. refl };
  };
  context = T.extended (T.extended T.empty (record { level = 1; holds = T.sort })) (record { level = 1; holds = T.sort });
  cons = each_at (GoodCon pair_known 2 pair) pair.cons
      (record { sorted = record { level = 0; holds = T.pi {m = 0} {n = 0} (T.var refl) (T.pi {m = 0} {n = 0} (T.var refl) pair_end) }; as_many = refl; within = pair_within }, tt);
  fields = pair_within;
})
  where
    true_false : true ≡ false → ⊥
    true_false h = cc h

pub no_metas : AllDecl HasNoMeta (Family nat) × (AllDecl HasNoMeta (Family vec) × AllDecl HasNoMeta (Family pair))
no_metas = (
  record { params = tt; indices = tt; cons = (record { args = tt; indices = tt }, (record { args = (tt, tt); indices = tt }, tt)); fields = tt },
  (
    record {
      params = (tt, tt);
      indices = (tt, tt);
      cons = (record { args = tt; indices = (tt, tt) }, (record { args = (tt, (tt, (((tt, tt), tt), tt))); indices = ((tt, tt), tt) }, tt));
      fields = tt;
    },
    record { params = (tt, (tt, tt)); indices = tt; cons = (record { args = (tt, (tt, tt)); indices = tt }, tt); fields = (tt, (tt, tt)) },
  ),
)

pub families_derivable : Derivable families
families_derivable =
    let a : Signature Term = Family nat ∷ [] in
    let b : Signature Term = Family nat ∷ Family vec ∷ [] in
    let one : Derivable a = derivable-extended [] (Family nat) derivable-empty good_nat no_metas.0 in
    let two : Derivable b = derivable-extended a (Family vec) one good_vec no_metas.1.0 in
    derivable-extended b (Family pair) two good_pair no_metas.1.1

pub pair_of_projections : (ps : Terms) (p : Term) → Conv families (App Explicit (App Explicit (Con 4 ps) (Proj 0 p)) (Proj 1 p)) p
pair_of_projections ps p =
    let is : IsEtaCon families 4 2 = record { decl = pair; con = pair_con; is_decl = refl; is_con = refl; place = refl; eta = refl } in
    C.back (C.eta_record ps is)

no_eta_by : (d : FamDecl Term) (b : Bool) → d.is_record ≡ b → HasShape d → d.fields ≡ [] → d.eta ≡ true → ⊥
no_eta_by d true r s f e = let h : 0 < length d.fields = (s.of_record r).some_field e in let e : length d.fields ≡ 0 = ap length f in absurd (omega (arith, h, e))
no_eta_by d false r s f e = absurd (true_false (sym e ∙ (s.of_data r).eta))
  where
    true_false : true ≡ false → ⊥
    true_false h = cc h

pub no_eta_without_fields : (g : Signature Term) (k d : ℕ) (decl : FamDecl Term) → Derivable g → fam_decl g d ≡ Some decl → decl.fields ≡ [] → IsEtaCon g k d → ⊥
no_eta_without_fields g k d decl r e f is =
    let same : is.decl ≡ decl = same_family (sym is.is_decl ∙ e) in
    no_eta_by decl decl.is_record refl (derivable-shape g r d decl e) f (rw same at is.eta)
  where
    same_family : {x y : FamDecl Term} → Some x ≡ Some y → x ≡ y
    same_family h = cc h

pub size-doubled : (n : ℕ) → size (doubled n) + 1 ≡ 2 ^ (n + 1)
unfolding doubled
size-doubled zero = refl
size-doubled (suc n) =
    let h : size (doubled n) + 1 ≡ 2 ^ (n + 1) = size-doubled n in
    let p : 2 ^ (suc n + 1) ≡ 2 ^ (n + 1) + 2 ^ (n + 1) = grind (arith, common_steps) in
    omega (arith, h, p)

pub doubled_size : size (doubled 60) ≡ 2 ^ 61 - 1
doubled_size = let h : size (doubled 60) + 1 ≡ 2 ^ 61 = size-doubled 60 in omega (arith, h)

pub projection_of_pair : (a b x y : Term) → Conv families (Proj 1 (pair_of a b x y)) y
projection_of_pair a b x y =
    let s : ConApp = record { con = 4; params = And a (And b End); args = x ∷ y ∷ [] } in
    C.field (record { fam = 2; at = 1; con = s; place = refl; full = refl; own = refl; is = refl })

retype : {g : Signature Term} {c : Context Term} {t a b : Term} → a ≡ b → Typing g c t a → Typing g c t b
retype {g = g} {c = c} {t = t} e h = subst (Typing g c t) e h

pub pair_typed : (c : Context Term) (a b x y : Term) → Typing families c a (Sort 0) → Typing families c b (Sort 0) → Typing families c x a → Typing families c y b → Typing families c (pair_of a b x y) (pair_type a b)
pair_typed c a b x y ha hb hx hy =
    let ps : Terms = And a (And b End) in
    let k : Typing families c (Con 4 ps) (Pi Explicit 12 (shift a 0 0) (Pi Explicit 13 (shift b 0 1) (pair_type (shift a 0 2) (shift b 0 2)))) =
    T.con (record { fam = 2; at = 0; decl = pair; con = pair_con; place = refl; is_decl = refl; is_con = refl }) (T.more (T.more T.none ha) hb) in
    let one : Typing families c (App Explicit (Con 4 ps) x) (Pi Explicit 13 b (pair_type (shift a 0 1) (shift b 0 1))) =
    retype (λ i. Pi Explicit 13 ((subst_shifted b 0 0 x (omega arith) ∙ shift_none b 0) i) (pair_type (subst_shifted_under a 0 1 1 x (omega arith) i) (subst_shifted_under b 0 1 1 x (omega arith) i)))
    (T.app k (retype (sym (shift_none a 0)) hx)) in
    retype (λ i. pair_type ((subst_shifted a 0 0 y (omega arith) ∙ shift_none a 0) i) ((subst_shifted b 0 0 y (omega arith) ∙ shift_none b 0) i)) (T.app one hy)

pub projections_typed : (c : Context Term) (a b p : Term) → Typing families c p (pair_type a b) → Typing families c (Proj 0 p) a × Typing families c (Proj 1 p) b
projections_typed c a b p h =
    let first : IsField families 0 = record { fam = 2; at = 0; decl = pair; entry = entry Explicit 12 (Var 1); place = refl; is_decl = refl; is_entry = refl } in
    let second : IsField families 1 = record { fam = 2; at = 1; decl = pair; entry = entry Explicit 13 (Var 1); place = refl; is_decl = refl; is_entry = refl } in
    (retype (shift_none a 0) (T.proj first (a ∷ b ∷ []) refl h), retype (shift_none b 0) (T.proj second (a ∷ b ∷ []) refl h))
