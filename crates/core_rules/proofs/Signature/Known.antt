-- What an id names in a signature it names in one that goes on from it.
use Rattle.std.specs.Prelude.{◌≡◌, ℕ, ◌+◌, ◌<◌, true, eqb, cond, List, [], ◌∷◌, ◌++◌, length, map, sum, slice_get, Some, None, option_and_then, refl, zero, suc}
use Rattle.std.proofs.Common.{ap, ◌∙◌, arith, add-zero}
use Rattle.std.proofs.lemmas.List.{map-append, length-map, take-append-le, get_or_append_left}
use Rattle.core_rules.specs.Term.{Term, Proj}
use Rattle.core_rules.specs.Signature.{Signature, Decl, Postulate, Family, Open, Function, FamDecl, ConDecl, Tree, defs, fams, decl_type, decl_tree, def_type, tree_of, fam_decl, places, con_place, field_place, con_decl, fields_of, numbers}
use Rattle.core_rules.specs.Elimination.{projections}
use Rattle.core_rules.specs.Run.{ConApp, con_app, takes, is_record_con, full_con}
use Rattle.core_rules.specs.Conversion.{IsEtaCon, IsArgument}
use Rattle.core_rules.specs.Typing.{IsCon, IsField}
use Rattle.core_rules.proofs.Run.Records.{IsValue, passes, goes_on, test_passed, full-takes}

pub get_left : {X : Type 0} (xs ys : List X) (i : ℕ) (x : X) → slice_get xs i ≡ Some x → slice_get (xs ++ ys) i ≡ Some x
get_left [] ys i x h = absurd cc
get_left (y ∷ xs) ys zero x h = h
get_left (y ∷ xs) ys (suc i) x h = get_left xs ys i x h

pub defs-append : (g h : Signature Term) → defs (g ++ h) ≡ defs g ++ defs h
defs-append [] h = refl
defs-append (Postulate x a ∷ g) h = ap (λ ds. Postulate x a ∷ ds) (defs-append g h)
defs-append (Family d ∷ g) h = defs-append g h
defs-append (Open x a ∷ g) h = ap (λ ds. Open x a ∷ ds) (defs-append g h)
defs-append (Function x a qs T ∷ g) h = ap (λ ds. Function x a qs T ∷ ds) (defs-append g h)

pub fams-append : (g h : Signature Term) → fams (g ++ h) ≡ fams g ++ fams h
fams-append [] h = refl
fams-append (Postulate x a ∷ g) h = fams-append g h
fams-append (Family d ∷ g) h = ap (λ ds. d ∷ ds) (fams-append g h)
fams-append (Open x a ∷ g) h = fams-append g h
fams-append (Function x a qs T ∷ g) h = fams-append g h

append_one_more : {X : Type 0} (xs ys zs : List X) → xs ++ (ys ++ zs) ≡ xs ++ ys ++ zs
append_one_more [] ys zs = refl
append_one_more (x ∷ xs) ys zs = ap (λ l. x ∷ l) (append_one_more xs ys zs)

pub places-append : (b : ℕ) (ns ms : List ℕ) → places b (ns ++ ms) ≡ places b ns ++ places (b + length ns) ms
places-append b [] ms = rw add-zero refl
places-append b (n ∷ ns) ms =
    let p : b + 1 + length ns ≡ b + suc (length ns) = omega arith in
    let here : List (ℕ × ℕ) = map (λ i. (b, i)) (numbers 0 n) in
    ap (λ l. here ++ l) (places-append (b + 1) ns ms ∙ ap (λ k. places (b + 1) ns ++ places k ms) p) ∙ append_one_more here (places (b + 1) ns) (places (b + suc (length ns)) ms)

found : {X : Type 0} (xs : List X) (n : ℕ) → n < length xs → IsValue (slice_get xs n) (λ x. Unit {0})
found [] n b = absurd (omega arith)
found (x ∷ xs) zero b = record { value = x; is = refl; holds = tt }
found (x ∷ xs) (suc n) b = found xs n (omega arith)

module _ (g h : Signature Term) where
  pub fam-known : (n : ℕ) (d : FamDecl Term) → fam_decl g n ≡ Some d → fam_decl (g ++ h) n ≡ Some d
  fam-known n d e = rw fams-append (get_left (fams g) (fams h) n d e)

  def-known : (f : ℕ) (d : Decl Term) → slice_get (defs g) f ≡ Some d → slice_get (defs (g ++ h)) f ≡ Some d
  def-known f d e = rw defs-append (get_left (defs g) (defs h) f d e)

  pub type-known : (f : ℕ) (a : Term) → def_type g f ≡ Some a → def_type (g ++ h) f ≡ Some a
  type-known f a e = let v = goes_on decl_type (slice_get (defs g) f) a e in rw (def-known f v.value v.is) v.holds

  pub tree-known : (f : ℕ) (T : Tree Term) → tree_of g f ≡ Some T → tree_of (g ++ h) f ≡ Some T
  tree-known f T e = let v = goes_on decl_tree (slice_get (defs g) f) T e in rw (def-known f v.value v.is) v.holds

  place-known : (count : FamDecl Term → ℕ) (k : ℕ) (p : ℕ × ℕ) → slice_get (places 0 (map count (fams g))) k ≡ Some p → slice_get (places 0 (map count (fams (g ++ h)))) k ≡ Some p
  place-known count k p e = rw (fams-append, map-append, places-append) (get_left (places 0 (map count (fams g))) (places (0 + length (map count (fams g))) (map count (fams h))) k p e)

  pub con-place-known : (k : ℕ) (p : ℕ × ℕ) → con_place g k ≡ Some p → con_place (g ++ h) k ≡ Some p
  con-place-known k p e = place-known (λ d. length d.cons) k p e

  pub field-place-known : (k : ℕ) (p : ℕ × ℕ) → field_place g k ≡ Some p → field_place (g ++ h) k ≡ Some p
  field-place-known k p e = place-known (λ d. length d.fields) k p e

  pub con-known : (k : ℕ) (c : ConDecl Term) → con_decl g k ≡ Some c → con_decl (g ++ h) k ≡ Some c
  con-known k c e =
      let p = goes_on (λ p. option_and_then (λ d. slice_get d.cons p.1) (fam_decl g p.0)) (con_place g k) c e in
      let d = goes_on (λ d. slice_get d.cons p.value.1) (fam_decl g p.value.0) c p.holds in
      rw (con-place-known k p.value p.is) (rw (fam-known p.value.0 d.value d.is) d.holds)

  -- the ids of the fields of a family that g has
  pub fields-known : (n : ℕ) → n < length (fams g) → fields_of (g ++ h) n ≡ fields_of g n
  fields-known n b =
      let counts : (d : Signature Term) → List ℕ = λ d. map (λ d. length d.fields) (fams d) in
      let l : length (counts g) ≡ length (fams g) = length-map (fams g) (λ d. length d.fields) in
      rw (fams-append, map-append) (λ i. numbers (sum (take-append-le n (counts g) (counts h) (omega (arith, l, b)) i)) (get_or_append_left (counts g) (counts h) 0 n (omega (arith, l, b)) i))

  pub projections-known : (n : ℕ) (t : Term) → n < length (fams g) → projections (g ++ h) n t ≡ projections g n t
  projections-known n t b = ap (map (λ k. Proj k t)) (fields-known n b)

  takes-known : (k n : ℕ) → takes g k n ≡ true → takes (g ++ h) k n ≡ true
  takes-known k n e = let v = passes (λ c. eqb (length c.args) n) (con_decl g k) e in rw (con-known k v.value v.is) v.holds

  all_known : (s c : ConApp) → cond (takes g s.con (length s.args)) (Some s) None ≡ Some c → cond (takes (g ++ h) s.con (length s.args)) (Some s) None ≡ Some c
  all_known s c e = rw (takes-known s.con (length s.args) (test_passed (takes g s.con (length s.args)) s c e).0) (ap Some (test_passed (takes g s.con (length s.args)) s c e).1)

  pub full-known : (t : Term) (c : ConApp) → full_con g t ≡ Some c → full_con (g ++ h) t ≡ Some c
  full-known t c e =
      let v = goes_on (λ s. cond (takes g s.con (length s.args)) (Some s) None) (con_app t []) c e in
      rw v.is (all_known v.value c v.holds)

  -- a constructor that g knows
  placed : (t : Term) (c : ConApp) → full_con g t ≡ Some c → IsValue (con_place g c.con) (λ p. Unit {0})
  placed t c e =
      let v = passes (λ k. eqb (length k.args) (length c.args)) (con_decl g c.con) (full-takes g t c e) in
      let p = goes_on (λ p. option_and_then (λ d. slice_get d.cons p.1) (fam_decl g p.0)) (con_place g c.con) v.value v.is in
      record { value = p.value; is = p.is; holds = tt }

  pub record-known : (n : ℕ) (t : Term) (c : ConApp) → n < length (fams g) → full_con g t ≡ Some c → is_record_con (g ++ h) c.con n ≡ is_record_con g c.con n
  record-known n t c b e =
      let p = placed t c e in
      let d = found (fams g) n b in
      rw (con-place-known c.con p.value p.is, fam-known n d.value d.is, p.is, d.is) refl

  abbrev pub eta-known : (k d : ℕ) → IsEtaCon g k d → IsEtaCon (g ++ h) k d
  eta-known k d is = record { decl = is.decl; con = is.con; is_decl = fam-known d is.decl is.is_decl; is_con = con-known k is.con is.is_con; place = con-place-known k (d, 0) is.place; eta = is.eta }

  pub argument-known : (f : ℕ) (t u : Term) → IsArgument g f t u → IsArgument (g ++ h) f t u
  argument-known f t u is = record {
    fam = is.fam;
    at = is.at;
    con = is.con;
    place = field-place-known f (is.fam, is.at) is.place;
    full = full-known t is.con is.full;
    own = con-place-known is.con.con (is.fam, 0) is.own;
    is = is.is;
  }

  abbrev pub is_con-known : (k : ℕ) → IsCon g k → IsCon (g ++ h) k
  is_con-known k is = record { fam = is.fam; at = is.at; decl = is.decl; con = is.con; place = con-place-known k (is.fam, is.at) is.place; is_decl = fam-known is.fam is.decl is.is_decl; is_con = is.is_con }

  abbrev pub is_field-known : (f : ℕ) → IsField g f → IsField (g ++ h) f
  is_field-known f is = record { fam = is.fam; at = is.at; decl = is.decl; entry = is.entry; place = field-place-known f (is.fam, is.at) is.place; is_decl = fam-known is.fam is.decl is.is_decl; is_entry = is.is_entry }
