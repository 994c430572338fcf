-- The parts of a value of a record: its projections, or the arguments that these take.
use Rattle.std.specs.Prelude.{◌≡◌, ℕ, Bool, true, false, ◌&&◌, eqb, cond, List, [], ◌∷◌, length, map, slice_get, Option, Some, None, option_and_then, unwrap_or, refl, suc}
use Rattle.std.specs.Option.{option_map_or}
use Rattle.std.proofs.Common.{ap₂, ◌∙◌, arith}
use Rattle.core_rules.specs.Term.{Term, Proj}
use Rattle.core_rules.specs.Signature.{Signature, FamDecl, fields_of}
use Rattle.core_rules.specs.Elimination.{projections}
use Rattle.core_rules.specs.Run.{ConApp, is_record_con, full_con, parts}
use Rattle.core_rules.specs.Conversion as C
use Rattle.core_rules.specs.Conversion.{Conv, IsEtaCon, IsArgument}
use Rattle.core_rules.specs.InScope.{HasShape, FamiliesHaveShape}
use Rattle.core_rules.proofs.Run.Records.{record_term, argument}
use Rattle.core_rules.proofs.Heads.Gather as E
use Rattle.core_rules.proofs.Heads.Gather.{ConvEach}
use Rattle.core_rules.proofs.Heads.Sound.{eqb_same}

-- whatever holds of projections, and of projections with the arguments that they take, holds of projections with parts
pub data Each (R : Term → Term → Type 0) : List Term → List Term → Type 0 where
  none : Each R [] []
  one : {t u : Term} {ts us : List Term} → R t u → Each R ts us → Each R (t ∷ ts) (u ∷ us)

module _ (g : Signature Term) (shapes : FamiliesHaveShape g) where
  -- the constructor of a record that has eta is a record's constructor
  eta_is_record : (d : FamDecl Term) → HasShape d → d.eta ≡ true → d.is_record ≡ true
  eta_is_record d h e = by_kind d.is_record refl
    where
      by_kind : (b : Bool) → d.is_record ≡ b → d.is_record ≡ true
      by_kind true q = q
      by_kind false q = let x = (h.of_data q).eta in absurd cc

  pub own_con : (k d : ℕ) → IsEtaCon g k d → is_record_con g k d ≡ true
  own_con k d is =
      ap₂ (λ o p. option_map_or (λ p. eqb p.0 d) o false && option_map_or (λ decl. decl.is_record) p false) is.place is.is_decl
      ∙ ap₂ ◌&&◌ (eqb_same d) (eta_is_record is.decl (shapes d is.decl is.is_decl) is.eta)

  module _ (R : Term → Term → Type 0) (d : ℕ) (v : Term) (stays : (f : ℕ) → R (Proj f v) (Proj f v)) (goes : (f : ℕ) (u : Term) → IsArgument g f v u → R (Proj f v) u) where
    each_stays : (fs : List ℕ) → Each R (map (λ f. Proj f v) fs) (map (λ f. Proj f v) fs)
    each_stays [] = none
    each_stays (f ∷ fs) = one (stays f) (each_stays fs)

    each_goes : (fs : List ℕ) (us : List Term) → length fs ≡ length us → ((i f : ℕ) (u : Term) → slice_get fs i ≡ Some f → slice_get us i ≡ Some u → IsArgument g f v u) → Each R (map (λ f. Proj f v) fs) us
    each_goes [] [] e h = none
    each_goes [] (u ∷ us) e h = absurd (omega (arith, e))
    each_goes (f ∷ fs) [] e h = absurd (omega (arith, e))
    each_goes (f ∷ fs) (u ∷ us) e h = one (goes f u (h 0 f u refl refl)) (each_goes fs us (omega (arith, e)) (λ i. h (suc i)))

    pub each_part : Each R (projections g d v) (parts g d v)
    each_part = by_full (full_con g v) refl
      where
        by_test : (s : ConApp) (b : Bool) → full_con g v ≡ Some s → is_record_con g s.con d ≡ b → Each R (projections g d v) (unwrap_or (cond b (Some s.args) None) (projections g d v))
        by_test s false e h = each_stays (fields_of g d)
        by_test s true e h = let is = record_term g shapes d v s e h in each_goes (fields_of g d) s.args is.as_many (λ i f u p q. argument g d v s e is i f u p q)

        by_full : (o : Option ConApp) → full_con g v ≡ o → Each R (projections g d v) (unwrap_or (option_and_then (λ s. cond (is_record_con g s.con d) (Some s.args) None) o) (projections g d v))
        by_full None e = each_stays (fields_of g d)
        by_full (Some s) e = by_test s (is_record_con g s.con d) e refl

  each_conv : {ts us : List Term} → Each (Conv g) ts us → ConvEach g ts us
  each_conv none = E.none
  each_conv (one c cs) = E.one c (each_conv cs)

  pub parts_conv : (d : ℕ) (v : Term) → ConvEach g (projections g d v) (parts g d v)
  parts_conv d v = each_conv (each_part (Conv g) d v (λ f. C.same) (λ f u i. C.field i))
