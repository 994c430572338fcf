-- In a signature in scope the regular trees are those that head forms follow soundly.
use Rattle.std.specs.Prelude.{◌≡◌, ℕ, ◌+◌, ◌-◌, ◌<◌, Bool, true, false, eqb, List, [], ◌∷◌, ◌++◌, length, map, sum, take, drop, get_or, slice_get, refl, Option, Some, None, option_and_then, zero, suc}
use Rattle.std.specs.Option.{option_map_or}
use Rattle.std.specs.List.{AllByRecursion}
use Rattle.std.proofs.Common.{ap, ap₂, sym, ◌∙◌, arith, subst as transport, append-nil, length-append, eqb-true, zero-add}
use Rattle.std.proofs.lemmas.Grind.{common_steps}
use Rattle.std.proofs.lemmas.List.{length-map, take-append-drop}
use Rattle.core_rules.specs.Term.{Term}
use Rattle.core_rules.specs.Signature.{Tree, Leaf, Intro, Cosplit, Split, RecordSplit, Absurd, CoBranches, NoField, OnField, ConBranches, NoCon, Refuted, Goes, ConDecl, FamDecl, CoreClause, Decl, Postulate, Family, Open, Function, Signature, fams, decl_tree, def_decl, tree_of, fam_decl, numbers, places, con_counts, con_place, con_decl, fields_of}
use Rattle.core_rules.specs.Run.{takes}
use Rattle.core_rules.specs.Conversion.{IsEtaCon}
use Rattle.core_rules.specs.InScope.{field_count, arg_count, TreeInScope, CoBranchesInScope, ConBranchesInScope, IsRecordShape, FamiliesHaveShape, SignatureInScope}
use Rattle.core_rules.specs.BoundedLaws.{HasEta, IsRegular, AreRegular, BranchesAreRegular, HasRegularTrees}
use Rattle.core_rules.proofs.Signature.Places.{length-numbers, places_at, length-fields_of, def_stands, fam_stands}
use Rattle.core_rules.proofs.Signature.Known.{fams-append, fam-known, con-place-known}
use Rattle.core_rules.proofs.Heads.OneAnswer.{one_some}
use Rattle.core_rules.proofs.Heads.Fit.{IsEtaRecord, IsFit, AreFit, BranchesFit, HasFitTrees}

-- an item of a list that has one at every smaller place
item : {X : Type 0} (xs : List X) (i : ℕ) → i < length xs → (x : X) × (slice_get xs i ≡ Some x)
item [] i h = absurd (omega arith)
item (x ∷ xs) zero h = (x, refl)
item (x ∷ xs) (suc i) h = item xs i (omega arith)

length-places : (b : ℕ) (ns : List ℕ) → length (places b ns) ≡ sum ns
length-places b [] = refl
length-places b (n ∷ ns) =
    let a = length-append (map (λ i. (b, i)) (numbers 0 n)) (places (b + 1) ns) in
    let c = length-map (numbers 0 n) (λ i. (b, i)) in
    let d = length-numbers 0 n in
    let e = length-places (b + 1) ns in
    let s : sum (n ∷ ns) ≡ n + sum ns = grind (arith, common_steps) in
    a ∙ (ap₂ ◌+◌ (c ∙ d) e ∙ sym s)

each_family : (b : ℕ) (ks : List ℕ) (i : ℕ) (q : ℕ × ℕ) → slice_get (map (λ i. (b, i)) ks) i ≡ Some q → q.0 ≡ b
each_family b [] i q e = absurd cc
each_family b (k ∷ ks) zero q e = ap (λ q. q.0) (sym (one_some e))
each_family b (k ∷ ks) (suc i) q e = each_family b ks i q e

places_family : (b : ℕ) (ns : List ℕ) (k : ℕ) (q : ℕ × ℕ) → slice_get (places b ns) k ≡ Some q → q.0 < b + length ns
places_family b [] k q e = absurd cc
places_family b (n ∷ ns) k q e = by_part (map (λ i. (b, i)) (numbers 0 n)) k (λ i d. let x = each_family b (numbers 0 n) i q d in omega (arith, x)) (λ j d. let x = places_family (b + 1) ns j q d in omega (arith, x)) e
  where
    by_part : (xs : List (ℕ × ℕ)) (k : ℕ) → ((i : ℕ) → slice_get xs i ≡ Some q → q.0 < b + suc (length ns)) → ((j : ℕ) → slice_get (places (b + 1) ns) j ≡ Some q → q.0 < b + suc (length ns)) → slice_get (xs ++ places (b + 1) ns) k ≡ Some q → q.0 < b + suc (length ns)
    by_part [] k u v e = v k e
    by_part (x ∷ xs) zero u v e = u 0 e
    by_part (x ∷ xs) (suc k) u v e = by_part xs k (λ i d. u (suc i) d) v e

counted : (f : FamDecl Term → ℕ) (ds : List (FamDecl Term)) (n : ℕ) (d : FamDecl Term) → slice_get ds n ≡ Some d → get_or (map f ds) n 0 ≡ f d
counted f [] n d e = absurd cc
counted f (c ∷ ds) zero d e = ap f (one_some e)
counted f (c ∷ ds) (suc n) d e = counted f ds n d e

-- a record that has eta has its one constructor
eta_record : (g : Signature Term) → FamiliesHaveShape g → (d : ℕ) → HasEta g d → IsEtaRecord g d
eta_record g sh d e = by_kind e.decl.is_record refl
  where
    record_shape : IsRecordShape e.decl → e.decl.is_record ≡ true → IsEtaRecord g d
    record_shape r t =
        let one : get_or (con_counts g) d 0 ≡ 1 = counted (λ d. length d.cons) (fams g) d e.decl e.is_decl ∙ ap length r.cons in
        let k = sum (take d (con_counts g)) + 0 in
        let place : con_place g k ≡ Some (d, 0) = places_at 0 (con_counts g) d 0 (omega (arith, one)) ∙ ap (λ n. Some (n, 0)) (zero-add d) in
        let known : con_decl g k ≡ Some r.con =
        ap (option_and_then (λ p. option_and_then (λ d. slice_get d.cons p.1) (fam_decl g p.0))) place
        ∙ (ap (option_and_then (λ d. slice_get d.cons 0)) e.is_decl ∙ ap (λ cs. slice_get cs 0) r.cons) in
        record {
          con = k;
          is = record { decl = e.decl; con = r.con; is_decl = e.is_decl; is_con = known; place = place; eta = e.eta };
          is_record = t;
          as_many = ap length r.args ∙ sym (length-fields_of g d ∙ counted (λ d. length d.fields) (fams g) d e.decl e.is_decl);
        }

    by_kind : (b : Bool) → e.decl.is_record ≡ b → IsEtaRecord g d
    by_kind true t = record_shape ((sh d e.decl e.is_decl).of_record t) t
    by_kind false t = let x = ((sh d e.decl e.is_decl).of_data t).eta in absurd cc

-- a record's constructor has as many arguments as the record has fields
pub eta_fields : (g : Signature Term) → FamiliesHaveShape g → (k d : ℕ) (is : IsEtaCon g k d) → length is.con.args ≡ length (fields_of g d)
eta_fields g sh k d is =
    let e = eta_record g sh d (record { decl = is.decl; is_decl = is.is_decl; eta = is.eta }) in
    let at = option_and_then (λ p. option_and_then (λ d. slice_get d.cons p.1) (fam_decl g p.0)) in
    let own : is.con ≡ e.is.con = one_some (sym is.is_con ∙ (ap at (is.place ∙ sym e.is.place) ∙ e.is.is_con)) in
    ap (λ c. length c.args) own ∙ e.as_many

-- the signature p, as it is where a function is checked, and as it goes on
module _ (p rest : Signature Term) (x : ℕ) (a : Term) where
  abbrev opened : Signature Term
  opened = p ++ Open x a ∷ []

  fams_opened : fams opened ≡ fams p
  fams_opened = fams-append p (Open x a ∷ []) ∙ append-nil (fams p)

  -- the number of arguments of a constructor
  argument_count : (k m : ℕ) → k < sum (con_counts opened) → takes (p ++ rest) k m ≡ true → arg_count opened k ≡ m
  argument_count k m h t =
      let inside : k < sum (con_counts p) = transport (λ ds. k < sum (map (λ d. length d.cons) ds)) fams_opened h in
      let bound : k < length (places 0 (con_counts p)) = let e = length-places 0 (con_counts p) in omega (arith, e, inside) in
      let q = item (places 0 (con_counts p)) k bound in
      let low : q.0.0 < length (fams p) = let e = places_family 0 (con_counts p) k q.0 q.1 in let l = length-map (fams p) (λ d. length d.cons) in omega (arith, e, l) in
      let d = item (fams p) q.0.0 low in
      ap (λ ds. option_map_or (λ c. length c.args) (option_and_then (λ q. option_and_then (λ d. slice_get d.cons q.1) (slice_get ds q.0)) (slice_get (places 0 (map (λ d. length d.cons) ds)) k)) 0) fams_opened
      ∙ (ap (λ o. option_map_or (λ c. length c.args) (option_and_then (λ q. option_and_then (λ d. slice_get d.cons q.1) (fam_decl p q.0)) o) 0) q.1
      ∙ (ap (λ o. option_map_or (λ c. length c.args) (option_and_then (λ d. slice_get d.cons q.0.1) o) 0) d.1
      ∙ by_con (slice_get d.0.cons q.0.1)
      (transport (λ o. option_map_or (λ c. eqb (length c.args) m) (option_and_then (λ d. slice_get d.cons q.0.1) o) false ≡ true) (fam-known p rest q.0.0 d.0 d.1)
      (transport (λ o. option_map_or (λ c. eqb (length c.args) m) (option_and_then (λ q. option_and_then (λ d. slice_get d.cons q.1) (fam_decl (p ++ rest) q.0)) o) false ≡ true) (con-place-known p rest k q.0 q.1) t))))
    where
      by_con : (o : Option (ConDecl Term)) → option_map_or (λ c. eqb (length c.args) m) o false ≡ true → option_map_or (λ c. length c.args) o 0 ≡ m
      by_con None e = absurd cc
      by_con (Some c) e = eqb-true (length c.args) m e

  field_number : (d : ℕ) → d < length (fams opened) → field_count opened d ≡ length (fields_of (p ++ rest) d)
  field_number d h =
      let low : d < length (fams p) = let e = ap length fams_opened in omega (arith, e, h) in
      let c = item (fams p) d low in
      ap (λ ds. option_map_or (λ d. length d.fields) (slice_get ds d) 0) fams_opened
      ∙ (ap (λ o. option_map_or (λ d. length d.fields) o 0) c.1
      ∙ sym (length-fields_of (p ++ rest) d ∙ counted (λ d. length d.fields) (fams (p ++ rest)) d c.0 (fam-known p rest d c.0 c.1)))

  module _ (M : ℕ → ℕ → Type 0) (sh : FamiliesHaveShape (p ++ rest)) where
    mutual
      fit : (n : ℕ) (T : Tree Term) → TreeInScope opened M n T → IsRegular (p ++ rest) T → IsFit (p ++ rest) n T
      fit n (Leaf t i) s r = tt
      fit n (Intro T) s r = fit (n + 1) T s r
      fit n (Cosplit bs) s r = co_fit n bs s r
      fit n (Split k bs) s r = (s.0, branches_fit n bs s.1 r)
      fit n (RecordSplit k d T) s r =
          (s.0, eta_record (p ++ rest) sh d r.0, transport (λ m. IsFit (p ++ rest) (n + m - 1) T) (field_number d s.1) (fit (n + field_count opened d - 1) T s.2 r.1))
      fit n (Absurd k) s r = tt

      co_fit : (n : ℕ) (bs : CoBranches Term) → CoBranchesInScope opened M n bs → AreRegular (p ++ rest) bs → AreFit (p ++ rest) n bs
      co_fit n NoField s r = tt
      co_fit n (OnField f T bs) s r = (fit n T s.1 r.0, co_fit n bs s.2 r.1)

      branches_fit : (n : ℕ) (bs : ConBranches Term) → ConBranchesInScope opened M n bs → BranchesAreRegular (p ++ rest) bs → BranchesFit (p ++ rest) n bs
      branches_fit n NoCon s r = tt
      branches_fit n (Refuted k bs) s r = branches_fit n bs s.1 r
      branches_fit n (Goes k b T bs) s r = (
        record { within = λ m t. transport (λ l. AllByRecursion (λ i. i < n + l - 1) b.keep) (argument_count k m s.0 t) s.1.keep; once = r.0.once },
        transport (λ m. IsFit (p ++ rest) m T) (sym r.0.as_many) (fit (length b.context) T s.2 r.1),
        branches_fit n bs s.3 r.2,
      )

pub function_stands : (g : Signature Term) (f : ℕ) (T : Tree Term) → tree_of g f ≡ Some T → (i : ℕ) × (x : ℕ) × (a : Term) × (qs : List (CoreClause Term)) × (slice_get g i ≡ Some (Function x a qs T))
function_stands g f T e = by_decl (def_decl g f) refl e
  where
    by_decl : (o : Option (Decl Term)) → def_decl g f ≡ o → option_and_then decl_tree o ≡ Some T → (i : ℕ) × (x : ℕ) × (a : Term) × (qs : List (CoreClause Term)) × (slice_get g i ≡ Some (Function x a qs T))
    by_decl None d h = absurd cc
    by_decl (Some (Postulate x a)) d h = absurd cc
    by_decl (Some (Family c)) d h = absurd cc
    by_decl (Some (Open x a)) d h = absurd cc
    by_decl (Some (Function x a qs S)) d h = let s = def_stands g f (Function x a qs S) d in (s.place, x, a, qs, s.is ∙ ap (λ T. Some (Function x a qs T)) (one_some h))

pub shapes : (g : Signature Term) (M : ℕ → ℕ → Type 0) → SignatureInScope g M → FamiliesHaveShape g
shapes g M s d decl e = let p = fam_stands g d decl e in (s p.place (Family decl) p.is).shape

pub regular_fit : (g : Signature Term) (M : ℕ → ℕ → Type 0) → SignatureInScope g M → HasRegularTrees g → HasFitTrees g
regular_fit g M s r f T e =
    let d = function_stands g f T e in
    let p = take d.0 g in
    let rest = drop d.0 g in
    let whole : p ++ rest ≡ g = take-append-drop d.0 g in
    let sh = transport FamiliesHaveShape (sym whole) (shapes g M s) in
    transport (λ g. IsFit g 0 T) whole (fit p rest d.1 d.2 M sh 0 T (s d.0 (Function d.1 d.2 d.3 T) d.4).1 (transport (λ g. IsRegular g T) (sym whole) (r f T e)))
