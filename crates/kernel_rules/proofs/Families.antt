-- A family that is accepted over a derivable signature is good.
use Rattle.std.specs.Prelude.{◌≡◌, ℕ, ◌≤◌, max, Bool, true, false, cond, ltb, List, [], ◌∷◌, ◌++◌, length, slice_get, Some, refl, zero, suc}
use Rattle.std.proofs.Common.{ap, sym, arith, subst as transport}
use Rattle.std.proofs.lemmas.Bool.{eqb-true}
use Rattle.std.proofs.lemmas.Bool.Decides.{nat_tests}
use Rattle.core_rules.specs.Term.{Term, Sort}
use Rattle.core_rules.specs.Signature.{Signature, Context, onto, FamDecl, ConDecl, Family, fams, without_cons}
use Rattle.core_rules.specs.Elimination.{pi_over, con_end}
use Rattle.core_rules.specs.Typing as T
use Rattle.core_rules.specs.Typing.{Typing, WellFormed, HasSort}
use Rattle.core_rules.specs.Derivable as D
use Rattle.core_rules.specs.Derivable.{IsWithin, GoodCon, GoodFamily, Derivable}
use Rattle.core_rules.specs.InScope.{HasShape}
use Rattle.core_rules.proofs.Signature.FamilyKnown.{known-derivable}
use Rattle.kernel_rules.specs.Outcome.{Gives, Refuses}
use Rattle.kernel_rules.specs.TermReading.{InferOf, IsTypeOf}
use Rattle.core_rules.specs.TreeLaws.{IsSound}
use Rattle.kernel_rules.specs.Refusals.{DeclRefusal}
use Rattle.kernel_rules.specs.FamilyReading.{none_above, LevelsOf, ConOf, ConsOf, FamilyOf}
use Rattle.kernel_rules.proofs.Outcome.{one_gives, then-gives}
use Rattle.kernel_rules.proofs.Sound.{infer_typed, by-type}
use Rattle.core_rules.proofs.Trees.Sound.{derivable-sound}

-- a test that lets pass is passed
pub demanded : (w : Bool) (e : DeclRefusal) (o : Unit {0}) → Gives o ≡ cond w (Gives tt) (Refuses e) → w ≡ true
demanded true e o h = refl
demanded false e o h = absurd cc

not_above : (l n : ℕ) (w v : Bool) → ltb l n ≡ w → cond w false v ≡ true → (n ≤ l) × (v ≡ true)
not_above l n false v e h = (grind (arith, nat_tests), h)
not_above l n true v e h = absurd cc

module _ (g : Signature Term) (fuel depth : ℕ) (k : IsSound g) where
  pub type_typed : (c : Context Term) (t : Term) (n : ℕ) → IsTypeOf g fuel depth c t (Gives n) → Typing g c t (Sort n)
  type_typed c t n h = by-type g fuel depth k c t (InferOf g fuel depth c t) (infer_typed g fuel depth k c t) n h

  pub levels-formed : (es c : Context Term) (ns : List ℕ) → LevelsOf g fuel depth c es (Gives ns) → WellFormed g c → WellFormed g (onto es c)
  levels-formed [] c ns h w = w
  levels-formed (e ∷ es) c ns h w =
      let h1 = then-gives h in
      let h2 = then-gives h1.2 in
      levels-formed es (e ∷ c) h2.0 h2.1 (T.extended w (record { level = h1.0; holds = type_typed c e.ty h1.0 h1.1 }))

  levels-within : (l : ℕ) (es c : Context Term) (ns : List ℕ) → LevelsOf g fuel depth c es (Gives ns) → none_above l ns ≡ true → IsWithin g l c es
  levels-within l [] c ns h w = D.none
  levels-within l (e ∷ es) c ns h w =
      let h1 = then-gives h in
      let h2 = then-gives h1.2 in
      let n : none_above l (h1.0 ∷ h2.0) ≡ true = transport (λ ns. none_above l ns ≡ true) (one_gives h2.2) w in
      let p = not_above l h1.0 (ltb l h1.0) (none_above l h2.0) refl n in
      D.more (type_typed c e.ty h1.0 h1.1) p.0 (levels-within l es (e ∷ c) h2.0 h2.1 p.1)

  levels-sorted : (es c : Context Term) (ns : List ℕ) (t : Term) → LevelsOf g fuel depth c es (Gives ns) → HasSort g (onto es c) t → HasSort g c (pi_over es t)
  levels-sorted [] c ns t h s = s
  levels-sorted (e ∷ es) c ns t h s =
      let h1 = then-gives h in
      let h2 = then-gives h1.2 in
      let m = levels-sorted es (e ∷ c) h2.0 t h2.1 s in
      record { level = max h1.0 m.level; holds = T.pi (type_typed c e.ty h1.0 h1.1) m.holds }

  con-good : (n : ℕ) (d : FamDecl Term) (q : ConDecl Term) → ConOf g fuel depth n d q (Gives tt) → GoodCon g n d q
  con-good n d q h =
      let h1 = then-gives h in
      let h2 = then-gives h1.2 in
      let h3 = then-gives h2.2 in
      record {
        sorted = levels-sorted q.args (onto d.params []) h1.0 (con_end n d q) h1.1 (record { level = h3.0; holds = type_typed (onto q.args (onto d.params [])) (con_end n d q) h3.0 h3.1 });
        as_many = eqb-true (length q.indices) (length d.indices) (demanded _ _ _ h2.1);
        within = levels-within d.level q.args (onto d.params []) h1.0 h1.1 (demanded _ _ _ h3.2);
      }

  cons-good : (n : ℕ) (d : FamDecl Term) (qs : List (ConDecl Term)) → ConsOf g fuel depth n d qs (Gives tt) → (i : ℕ) (q : ConDecl Term) → slice_get qs i ≡ Some q → GoodCon g n d q
  cons-good n d [] h i q e = absurd cc
  cons-good n d (p ∷ qs) h zero q e = let h1 = then-gives h in transport (GoodCon g n d) (same_con e) (con-good n d p h1.1)
    where
      same_con : {x y : ConDecl Term} → Some x ≡ Some y → x ≡ y
      same_con e = cc e
  cons-good n d (p ∷ qs) h (suc i) q e = let h1 = then-gives h in cons-good n d qs h1.2 i q e

-- the fields of a record are its constructor's arguments, and a data type has none
fields-good : (g : Signature Term) (n : ℕ) (d : FamDecl Term) → HasShape d → ((i : ℕ) (q : ConDecl Term) → slice_get d.cons i ≡ Some q → GoodCon g n d q) → (w : Bool) → d.is_record ≡ w → IsWithin g d.level (onto d.params []) d.fields
fields-good g n d s h false e = transport (IsWithin g d.level (onto d.params [])) (sym (s.of_data e).fields) D.none
fields-good g n d s h true e =
    let r = s.of_record e in
    transport (IsWithin g d.level (onto d.params [])) r.args (h 0 r.con (ap (λ qs. slice_get qs 0) r.cons)).within

pub family-good : (g : Signature Term) (fuel depth : ℕ) (d : FamDecl Term) → Derivable g → HasShape d → FamilyOf g fuel depth d (Gives tt) → GoodFamily g d
family-good g fuel depth d r s h =
    let known : Signature Term = g ++ Family (without_cons d) ∷ [] in
    let k = derivable-sound g r in
    let h1 = then-gives h in
    let h2 = then-gives h1.2 in
    let w : WellFormed g (onto d.indices (onto d.params [])) = levels-formed g fuel depth k d.indices (onto d.params []) h2.0 h2.1 (levels-formed g fuel depth k d.params [] h1.0 h1.1 T.empty) in
    let cons : (i : ℕ) (q : ConDecl Term) → slice_get d.cons i ≡ Some q → GoodCon known (length (fams g)) d q = cons-good known fuel depth (derivable-sound known (known-derivable g d r w)) (length (fams g)) d d.cons h2.2 in
    record { shape = s; context = w; cons = cons; fields = fields-good known (length (fams g)) d s cons d.is_record refl }
