-- Lists of convertible terms: taken apart where values were spread or kept, and put together again.
use Rattle.std.specs.Prelude.{◌≡◌, ◌≢◌, ℕ, ◌+◌, ◌<◌, List, [], ◌∷◌, ◌++◌, length, map, reverse, take, drop, refl, zero, suc}
use Rattle.std.specs.List.{AllByRecursion}
use Rattle.std.proofs.Common.{ap, ap₂, sym, ◌∙◌, arith, subst as transport, get_or-set_same, get_or-set_other}
use Rattle.std.proofs.Math.ListN.{set}
use Rattle.std.proofs.lemmas.List.{reverse-append}
use Rattle.core_rules.specs.declared.Flag.{Flag}
use Rattle.core_rules.specs.Term.{Term}
use Rattle.core_rules.specs.Substitution.{value_at}
use Rattle.core_rules.specs.Signature.{Signature}
use Rattle.core_rules.specs.Elimination.{Elim, Arg, Field, elims}
use Rattle.core_rules.specs.Run.{spread}
use Rattle.core_rules.specs.Conversion as C
use Rattle.core_rules.specs.Conversion.{Conv}
use Rattle.core_rules.specs.BoundedLaws.{AreDistinct}

-- convertible in each place
pub data ConvEach (g : Signature Term) : List Term → List Term → Type 0 where
  none : ConvEach g [] []
  one : {t u : Term} {ts us : List Term} → Conv g t u → ConvEach g ts us → ConvEach g (t ∷ ts) (u ∷ us)

pub data ConvElims (g : Signature Term) : List Elim → List Elim → Type 0 where
  ends : ConvElims g [] []
  argument : {b : Flag} {t u : Term} {es ds : List Elim} → Conv g t u → ConvElims g es ds → ConvElims g (Arg b t ∷ es) (Arg b u ∷ ds)
  field : {f : ℕ} {es ds : List Elim} → ConvElims g es ds → ConvElims g (Field f ∷ es) (Field f ∷ ds)

module _ {g : Signature Term} where
  pub each_same : (ts : List Term) → ConvEach g ts ts
  each_same [] = none
  each_same (t ∷ ts) = one C.same (each_same ts)

  pub elims_same : (es : List Elim) → ConvElims g es es
  elims_same [] = ends
  elims_same (Arg b t ∷ es) = argument C.same (elims_same es)
  elims_same (Field f ∷ es) = field (elims_same es)

  pub conv-elims_all : {t u : Term} {es ds : List Elim} → Conv g t u → ConvElims g es ds → Conv g (elims t es) (elims u ds)
  conv-elims_all c ends = c
  conv-elims_all c (argument d ds) = conv-elims_all (C.app c d) ds
  conv-elims_all c (field ds) = conv-elims_all (C.proj c) ds

  pub each_length : {ts us : List Term} → ConvEach g ts us → length us ≡ length ts
  each_length none = refl
  each_length (one c cs) = ap suc (each_length cs)

  pub each_join : {ts us vs ws : List Term} → ConvEach g ts us → ConvEach g vs ws → ConvEach g (ts ++ vs) (us ++ ws)
  each_join none ds = ds
  each_join (one c cs) ds = one c (each_join cs ds)

  pub each_reverse : {ts us : List Term} → ConvEach g ts us → ConvEach g (reverse ts) (reverse us)
  each_reverse none = none
  each_reverse (one {t = t} {u = u} {ts = ts} {us = us} c cs) =
      transport (λ l. ConvEach g l (reverse (u ∷ us))) (sym (reverse-append (t ∷ []) ts))
      (transport (λ l. ConvEach g (reverse ts ++ t ∷ []) l) (sym (reverse-append (u ∷ []) us)) (each_join (each_reverse cs) (one c none)))

-- a list that is convertible to two lists one after the other
record Cut (g : Signature Term) (ts vs next : List Term) : Type 0 where
  left : List Term
  right : List Term
  same_left : ConvEach g ts left
  same_right : ConvEach g vs right
  joined : left ++ right ≡ next

cut : {g : Signature Term} (ts vs next : List Term) → ConvEach g (ts ++ vs) next → Cut g ts vs next
cut [] vs next cs = record { left = []; right = next; same_left = none; same_right = cs; joined = refl }
cut (t ∷ ts) vs next (one {u = n} c cs) = let x = cut ts vs _ cs in record { left = n ∷ x.left; right = x.right; same_left = one c x.same_left; same_right = x.same_right; joined = ap (λ l. n ∷ l) x.joined }

uncons : {g : Signature Term} {t : Term} {ts next : List Term} → ConvEach g (t ∷ ts) next → (u : Term) × (us : List Term) × Conv g t u × ConvEach g ts us × (u ∷ us ≡ next)
uncons (one {u = u} {us = us} c cs) = (u, us, c, cs, refl)

reverse_twice : {A : Type 0} (xs : List A) → reverse (reverse xs) ≡ xs
reverse_twice [] = refl
reverse_twice (x ∷ xs) = ap reverse (reverse-append (x ∷ []) xs) ∙ (reverse-append (reverse xs) (x ∷ []) ∙ ap (λ l. x ∷ l) (reverse_twice xs))

-- convertible values spread from convertible ones: value k may then be any term that is convertible
pub record Gathered (g : Signature Term) (k : ℕ) (us r next : List Term) : Type 0 where
  pub args : List Term
  pub same_args : ConvEach g us args
  pub back : (t : Term) → Conv g (value_at r k) t → (q : List Term) × ConvEach g r q × (value_at q k ≡ t) × (spread k args q ≡ next)

spread-suc : (k : ℕ) (us : List Term) (t : Term) (r : List Term) → spread (suc k) us (t ∷ r) ≡ t ∷ spread k us r
spread-suc k us t r = let e : suc k + 1 ≡ suc (k + 1) = omega arith in ap (λ j. t ∷ (take k r ++ reverse us) ++ drop j (t ∷ r)) e

pub gather : {g : Signature Term} (k : ℕ) (us r next : List Term) → k < length r → ConvEach g (spread k us r) next → Gathered g k us r next
gather k us [] next h cs = absurd (omega arith)
gather {g} zero us (v ∷ r) next h cs =
    let x = cut (reverse us) r next cs in
    record {
      args = reverse x.left;
      same_args = transport (λ l. ConvEach g l (reverse x.left)) (reverse_twice us) (each_reverse x.same_left);
      back = λ t c. (t ∷ x.right, one c x.same_right, refl, ap (λ l. l ++ x.right) (reverse_twice x.left) ∙ x.joined);
    }
gather {g} (suc k) us (w ∷ r) next h cs =
    let u = uncons (transport (λ l. ConvEach g l next) (spread-suc k us w r) cs) in
    let x = gather k us r u.1 (omega arith) u.3 in
    record {
      args = x.args;
      same_args = x.same_args;
      back = λ t d. let y = x.back t d in (u.0 ∷ y.0, one u.2 y.1, y.2, spread-suc k x.args u.0 y.0 ∙ (ap (λ l. u.0 ∷ l) y.3 ∙ u.4));
    }

each_value : {g : Signature Term} {ts us : List Term} (i : ℕ) → ConvEach g ts us → Conv g (value_at ts i) (value_at us i)
each_value i none = C.same
each_value zero (one c cs) = c
each_value (suc i) (one c cs) = each_value i cs

each_set : {g : Signature Term} (ts us : List Term) (i : ℕ) (t : Term) → Conv g (value_at ts i) t → ConvEach g ts us → ConvEach g ts (set us i t)
each_set ts us i t c none = none
each_set ts us zero t c (one d ds) = one c ds
each_set ts us (suc i) t c (one {ts = vs} {us = ws} d ds) = one d (each_set vs ws i t c ds)

-- values kept, at distinct places, of convertible ones
pub record Restored (g : Signature Term) (ks : List ℕ) (s next : List Term) : Type 0 where
  pub values : List Term
  pub same_values : ConvEach g s values
  pub keeps : map (value_at values) ks ≡ next

values_apart : (s : List Term) (i : ℕ) (t : Term) (ks : List ℕ) → AllByRecursion (λ j. i ≢ j) ks → map (value_at (set s i t)) ks ≡ map (value_at s) ks
values_apart s i t [] h = refl
values_apart s i t (k ∷ ks) h = ap₂ (λ v vs. v ∷ vs) (let n : k ≢ i = λ e. h.0 (sym e) in rw get_or-set_other refl) (values_apart s i t ks h.1)

pub restore : {g : Signature Term} (ks : List ℕ) (s next : List Term) → AllByRecursion (λ i. i < length s) ks → AreDistinct ks → ConvEach g (map (value_at s) ks) next → Restored g ks s next
restore [] s next h d none = record { values = s; same_values = each_same s; keeps = refl }
restore {g} (k ∷ ks) s next h d (one {u = n} c cs) =
    let x = restore ks s _ h.1 d.1 cs in
    let e : k < length x.values = let l = each_length x.same_values in omega (arith, h.0) in
    record {
      values = set x.values k n;
      same_values = each_set s x.values k n c x.same_values;
      keeps = ap₂ (λ v vs. v ∷ vs) (rw get_or-set_same refl) (values_apart x.values k n ks d.0 ∙ x.keeps);
    }
