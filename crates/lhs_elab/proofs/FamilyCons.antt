-- Constructors in a signature, and what can be put for a family.
use Rattle.std.proofs.Common.{◌≡◌, ◌<◌, ◌≤◌, ℕ, zero, suc, List, [], ◌∷◌, length, refl, sym, ap, ap₂, subst, ◌∙◌, arith}
use Rattle.std.specs.Prelude.{Bool, true, false, ◌&&◌, not, cond, eqb, Option, Some, None, is_some, option_map, option_and_then, slice_get}
use Rattle.std.proofs.lemmas.Bool.{ne_eqb}
use Rattle.std.proofs.lemmas.Option.{slice_get_within}
use Rattle.core_rules.proofs.Heads.Sound.{eqb_same}
use Rattle.core_rules.proofs.Heads.OneAnswer.{one_some}
use Rattle.core_rules.proofs.Heads.Mapped.{con_decl-map, con_place-map}
use Rattle.core_rules.specs.Term.{Term}
use Rattle.core_rules.specs.Signature.{ConDecl, FamDecl, Signature, con_counts, con_decl, con_place, fam_decl, fams, places}
use Rattle.core_rules.specs.Mapped.{AllCon, con_map, fam_map}
use Rattle.el_base.proofs.Throughout.{all-at}
use Rattle.kernel_rules.specs.Outcome.{Gives, Refuses}
use Rattle.el_outside.specs.declared.place.Pos.{Pos}
use Rattle.term_pool.specs.Pool.{Pool, tree}
use Rattle.core_terms.specs.Signature.{Stands, con_total, signature_in}
use Rattle.declared_types.proofs.Fields.{decl_is, fam_below}
use Rattle.declared_types.proofs.Grown.{fam_within}
use Rattle.weak_head.proofs.Lookups.{length_places, no_con, no_fam}
use Rattle.lhs_rules.specs.Families as R
use Rattle.lhs_rules.specs.Families.{with_own}
use Rattle.lhs_rules.specs.Refusals.{NotAbsurd, at}
use Rattle.lhs_rules.specs.Rules.{data_or}
use Rattle.lhs_elab.specs.declared.families.AtFamily.{AtFamily}
use Rattle.lhs_elab.specs.Families.{IsAt, IsDataOr, IsFamily, IsForCon}

module _ (g : Signature ℕ) (k : ℕ) where
  by_place : (o : Option (ℕ × ℕ)) → con_place g k ≡ o → con_decl g k ≡ option_and_then (λ (p : ℕ × ℕ). option_and_then (λ (d : FamDecl ℕ). slice_get d.cons p.1) (fam_decl g p.0)) o
  by_place o e = ap (option_and_then (λ (p : ℕ × ℕ). option_and_then (λ (d : FamDecl ℕ). slice_get d.cons p.1) (fam_decl g p.0))) e

  pub con-past : con_total g ≤ k → con_decl g k ≡ None
  con-past l = by_place None (no_con g k l)

  module _ (a b : ℕ) (e : con_place g k ≡ Some (a, b)) where
    pub fam-past : length (fams g) ≤ a → con_decl g k ≡ None
    fam-past l = by_place (Some (a, b)) e ∙ ap (option_and_then (λ (d : FamDecl ℕ). slice_get d.cons b)) (no_fam g a l)

    pub con-in : (d : FamDecl ℕ) → fam_decl g a ≡ Some d → con_decl g k ≡ slice_get d.cons b
    con-in d h = by_place (Some (a, b)) e ∙ ap (option_and_then (λ (d : FamDecl ℕ). slice_get d.cons b)) h

-- where it is
pub record ConThere (g : Signature ℕ) (k : ℕ) : Type 0 where
  pub fam : ℕ
  pub place : ℕ
  pub decl : FamDecl ℕ
  pub con : ConDecl ℕ
  pub is_place : con_place g k ≡ Some (fam, place)
  pub is_decl : fam_decl g fam ≡ Some decl
  pub is_con : slice_get decl.cons place ≡ Some con

pub con-there : (g : Signature ℕ) (k : ℕ) → is_some (con_decl g k) ≡ true → ConThere g k
con-there g k h = placed (con_place g k) refl
  where
    at_con : (a b : ℕ) (d : FamDecl ℕ) (o : Option (ConDecl ℕ)) → con_place g k ≡ Some (a, b) → fam_decl g a ≡ Some d → slice_get d.cons b ≡ o → ConThere g k
    at_con a b d (Some c) e f n = record { fam = a; place = b; decl = d; con = c; is_place = e; is_decl = f; is_con = n }
    at_con a b d None e f n = absurd (cc (h, con-in g k a b e d f, n))

    at_fam : (a b : ℕ) (o : Option (FamDecl ℕ)) → con_place g k ≡ Some (a, b) → fam_decl g a ≡ o → ConThere g k
    at_fam a b (Some d) e f = at_con a b d (slice_get d.cons b) e f refl
    at_fam a b None e f = absurd (cc (h, by_place g k (Some (a, b)) e, ap (option_and_then (λ (d : FamDecl ℕ). slice_get d.cons b)) f))

    placed : (o : Option (ℕ × ℕ)) → con_place g k ≡ o → ConThere g k
    placed (Some p) e = at_fam p.0 p.1 (fam_decl g p.0) e refl
    placed None e = absurd (cc (h, by_place g k None e))

pub there-total : (g : Signature ℕ) (k : ℕ) → ConThere g k → k < con_total g
there-total g k t = let l = slice_get_within (places 0 (con_counts g)) k (t.fam, t.place) t.is_place in omega (arith, l, length_places 0 (con_counts g))

-- its ids stand
pub con-stands : (p : Pool) (g : Signature ℕ) (k : ℕ) (c : ConDecl ℕ) → Stands p g → con_decl g k ≡ Some c → AllCon (λ t. t < length p.trees) c
con-stands p g k c s e =
    let t = con-there g k (ap is_some e) in
    let same : t.con ≡ c = one_some (sym t.is_con ∙ (sym (con-in g k t.fam t.place t.is_place t.decl t.is_decl) ∙ e)) in
    subst (AllCon (λ t. t < length p.trees)) same (all-at (AllCon (λ t. t < length p.trees)) t.decl.cons t.place t.con (fam_within p g t.fam t.decl s t.is_decl).cons t.is_con)

module _ (p : Pool) (g : Signature ℕ) where
  pub family-below : (o : Option R.AtFamily) (a : AtFamily) → IsFamily p (signature_in p g) o (Some a) → a.fam < length (fams g)
  family-below o a h = fam_below p g a.fam h.0.decl h.2.decl

  -- what the signature in code says of the family
  pub family-decl : (r : R.AtFamily) (a : AtFamily) (d : FamDecl ℕ) → IsAt p (signature_in p g) r a → fam_decl g a.fam ≡ Some d → r.decl ≡ fam_map (tree p) d
  family-decl r a d h e = decl_is p g a.fam d r.decl e h.decl

  module _ (k : ℕ) where
    abbrev own : Option R.AtFamily → Option R.AtCon
    own o = option_and_then (with_own (signature_in p g) k) o

    pub none-own : (o : Option R.AtFamily) → o ≡ None → own o ≡ None
    none-own o e = ap own e

    own-by : (r : R.AtFamily) (o : Option (ℕ × ℕ)) → con_place g k ≡ o → with_own (signature_in p g) k r
        ≡ option_and_then (λ (q : ℕ × ℕ). cond (eqb q.0 r.fam && not r.decl.coinductive) (option_map (λ (c : ConDecl Term). record { at = r; con = c }) (con_decl (signature_in p g) k)) None) o
    own-by r o e = ap (option_and_then (λ (q : ℕ × ℕ). cond (eqb q.0 r.fam && not r.decl.coinductive) (option_map (λ (c : ConDecl Term). record { at = r; con = c }) (con_decl (signature_in p g) k)) None)) (con_place-map (tree p) g k ∙ e)

    both_none : (b : Bool) → ◌≡◌ {A = Option R.AtCon} (cond b None None) None
    both_none true = refl
    both_none false = refl

    missing : (r : R.AtFamily) (o : Option (ℕ × ℕ)) → con_place g k ≡ o → con_decl g k ≡ None → with_own (signature_in p g) k r ≡ None
    missing r None e n = own-by r None e
    missing r (Some q) e n =
        own-by r (Some q) e ∙ (ap (λ (c : Option (ConDecl Term)). cond (eqb q.0 r.fam && not r.decl.coinductive) (option_map (λ (c : ConDecl Term). record { at = r; con = c }) c) None) (con_decl-map (tree p) g k ∙ ap (option_map (con_map (tree p))) n) ∙ both_none (eqb q.0 r.fam && not r.decl.coinductive))

    pub no_decl : (o : Option (ConDecl ℕ)) → is_some o ≡ false → o ≡ None
    no_decl None e = refl
    no_decl (Some c) e = absurd (cc e)

    pub own-missing : (o : Option R.AtFamily) (a : AtFamily) → IsFamily p (signature_in p g) o (Some a) → is_some (con_decl g k) ≡ false → own o ≡ None
    own-missing o a h n = ap own h.1 ∙ missing h.0 (con_place g k) refl (no_decl (con_decl g k) n)

    module _ (x y : ℕ) (e : con_place g k ≡ Some (x, y)) (o : Option R.AtFamily) (a : AtFamily) (h : IsFamily p (signature_in p g) o (Some a)) where
      abbrev tested : Bool → Option R.AtCon
      tested b = cond b (option_map (λ (c : ConDecl Term). record { at = h.0; con = c }) (con_decl (signature_in p g) k)) None

      pub own-other : (x ≡ a.fam → ⊥) → own o ≡ None
      own-other n =
          let f : eqb x h.0.fam ≡ false = ap (eqb x) h.2.fam ∙ ne_eqb x a.fam n in
          ap own h.1 ∙ (own-by h.0 (Some (x, y)) e ∙ ap (λ (b : Bool). tested (b && not h.0.decl.coinductive)) f)

      coinductive_of : (d : FamDecl ℕ) → fam_decl g a.fam ≡ Some d → h.0.decl.coinductive ≡ d.coinductive
      coinductive_of d i = ap (λ (w : FamDecl Term). w.coinductive) (family-decl h.0 a d h.2 i)

      both_false : (b : Bool) → b && false ≡ false
      both_false true = refl
      both_false false = refl

      pub own-coinductive : (d : FamDecl ℕ) → fam_decl g a.fam ≡ Some d → d.coinductive ≡ true → own o ≡ None
      own-coinductive d i t =
          ap own h.1 ∙ (own-by h.0 (Some (x, y)) e ∙ (ap (λ (b : Bool). tested (eqb x h.0.fam && not b)) (coinductive_of d i ∙ t) ∙ ap tested (both_false (eqb x h.0.fam))))

      pub own-is : (d : FamDecl ℕ) → fam_decl g a.fam ≡ Some d → d.coinductive ≡ false → x ≡ a.fam → (c : ConDecl ℕ) → con_decl g k ≡ Some c → IsForCon p (signature_in p g) k (own o) (Some a)
      own-is d i t s c j =
          let f : eqb x h.0.fam ≡ true = ap (eqb x) (h.2.fam ∙ sym s) ∙ eqb_same x in
          let m : con_decl (signature_in p g) k ≡ Some (con_map (tree p) c) = con_decl-map (tree p) g k ∙ ap (option_map (con_map (tree p))) j in
          let r : R.AtCon = record { at = h.0; con = con_map (tree p) c } in
          (r, h.2, m, ap own h.1 ∙ (own-by h.0 (Some (x, y)) e ∙ (ap₂ (λ (b w : Bool). tested (b && not w)) f (coinductive_of d i ∙ t) ∙ ap (option_map (λ (c : ConDecl Term). record { at = h.0; con = c })) m)))

  -- ---- data types

  module _ (o : Option R.AtFamily) (q : Pos) where
    pub none-data : o ≡ None → IsDataOr p (signature_in p g) (data_or q o) (at q NotAbsurd) None
    none-data e = ap (data_or q) e

    module _ (a : AtFamily) (h : IsFamily p (signature_in p g) o (Some a)) (d : FamDecl ℕ) (i : fam_decl g a.fam ≡ Some d) where
      record_of : h.0.decl.is_record ≡ d.is_record
      record_of = ap (λ (w : FamDecl Term). w.is_record) (family-decl h.0 a d h.2 i)

      pub record-data : d.is_record ≡ true → IsDataOr p (signature_in p g) (data_or q o) (at q NotAbsurd) None
      record-data t = ap (data_or q) h.1 ∙ ap (λ (b : Bool). cond b (Refuses (at q NotAbsurd)) (Gives h.0)) (record_of ∙ t)

      pub data-is : d.is_record ≡ false → IsDataOr p (signature_in p g) (data_or q o) (at q NotAbsurd) (Some a)
      data-is t = (h.0, h.2, ap (data_or q) h.1 ∙ ap (λ (b : Bool). cond b (Refuses (at q NotAbsurd)) (Gives h.0)) (record_of ∙ t))

pub some-within : {A : Type 0} (xs : List A) (i : ℕ) → i < length xs → is_some (slice_get xs i) ≡ true
some-within [] i l = absurd (omega (arith, l))
some-within (x ∷ xs) zero l = refl
some-within (x ∷ xs) (suc i) l = some-within xs i (omega (arith, l))

pub decl-there : (g : Signature ℕ) (k : ℕ) → is_some (con_decl g k) ≡ true → (c : ConDecl ℕ) × (con_decl g k ≡ Some c)
decl-there g k h = let t = con-there g k h in (t.con, con-in g k t.fam t.place t.is_place t.decl t.is_decl ∙ t.is_con)

pub fam-there : (g : Signature ℕ) (d : ℕ) → d < length (fams g) → (x : FamDecl ℕ) × (fam_decl g d ≡ Some x)
fam-there g d l = at_place (fams g) d l
  where
    at_place : (xs : List (FamDecl ℕ)) (i : ℕ) → i < length xs → (x : FamDecl ℕ) × (slice_get xs i ≡ Some x)
    at_place [] i l = absurd (omega (arith, l))
    at_place (x ∷ xs) zero l = (x, refl)
    at_place (x ∷ xs) (suc i) l = at_place xs i (omega (arith, l))
