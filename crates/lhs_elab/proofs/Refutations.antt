-- Absurd patterns: each constructor is refuted.
use Rattle.std.proofs.Common.{◌≡◌, ◌<◌, ◌≤◌, ℕ, zero, suc, List, [], ◌∷◌, length, map, refl, ap, sym, subst, ◌∙◌, arith}
use Rattle.std.specs.Prelude.{Option, Some, IfSome, slice_get}
use Rattle.std.specs.List.{AllByRecursion}
use Rattle.core_rules.specs.Heads.{Answer}
use Rattle.core_rules.specs.Mapped.{con_map}
use Rattle.core_rules.proofs.Heads.Mapped.{con_counts-map}
use Rattle.core_rules.specs.Signature.{AbsurdPat, ConDecl, FamDecl, Signature, cons_of, fam_decl, ids_of}
use Rattle.core_rules.specs.Term.{Term}
use Rattle.core_rules.specs.TypedTree.{Splitting}
use Rattle.core_terms.specs.Signature.{signature_in}
use Rattle.kernel_rules.specs.Outcome.{Outcome, Gives, Refuses}
use Rattle.el_outside.specs.declared.place.Pos.{Pos}
use Rattle.term_pool.specs.Pool.{Pool, tree}
use Rattle.lhs_rules.specs.Asking.{Is, Reads, ◌>>=◌, gives}
use Rattle.lhs_rules.specs.Families as R
use Rattle.lhs_rules.specs.Families.{at_family}
use Rattle.lhs_rules.specs.Refusals.{Refusal}
use Rattle.lhs_rules.specs.Rules.{Read, absurd_pattern, absurd_split, all_refuted, data_or, reads, shows}
use Rattle.lhs_rules.specs.Spots.{AtCon, AtValue, AtVar, Left, Spot, spot_at, spot_or, type_at}
use Rattle.lhs_elab.specs.declared.error.LhsError.{LhsError}
use Rattle.lhs_elab.specs.declared.families.AtFamily.{AtFamily}
use Rattle.lhs_elab.specs.declared.left.Left.{Left as CodeLeft}
use Rattle.lhs_elab.specs.declared.left.Spot.{Spot as CodeSpot}
use Rattle.lhs_elab.specs.declared.left.Spot.TheVariants as S
use Rattle.lhs_elab.specs.Answers.{RefusedBy}
use Rattle.lhs_elab.specs.Asked.{IsSplit}
use Rattle.lhs_elab.specs.Constructors.{con_refuted, data_read}
use Rattle.lhs_elab.specs.Elaborator.{Over, Comes}
use Rattle.lhs_elab.specs.Families.{IsAt}
use Rattle.lhs_elab.specs.Lefts.{LeftBelow, SpotBelow, left_in, spot_in}
use Rattle.lhs_elab.specs.Reading.{decl_cons, level_of}
use Rattle.lhs_elab.proofs.FamilyCons.{family-decl}
use Rattle.lhs_elab.proofs.Refusing.{refused-as}
use Rattle.lhs_elab.proofs.SplitContexts.{absurd-new, split-var}
use Rattle.lhs_elab.proofs.Stepping.{off, on, regroup}

-- ---- the constructors, one after the other

module _ (o : Over) (p : Pos) (s : Splitting) where
  pub refuted-none : (ks : List ℕ) → Comes o (all_refuted p s ks []) (Gives tt)
  refuted-none [] = refl
  refuted-none (k ∷ ks) = refl

  module _ (k : ℕ) (ks : List ℕ) (con : ConDecl Term) (cs : List (ConDecl Term)) where
    pub refuted-next : (r : Outcome Refusal (Unit {0})) → Comes o (con_refuted p k con s) (Gives tt) → Comes o (all_refuted p s ks cs) r → Comes o (all_refuted p s (k ∷ ks) (con ∷ cs)) r
    refuted-next r x y = on o (con_refuted p k con s) (λ (u : Unit {0}). all_refuted p s ks cs) tt r x y

    pub refuted-stop : (e : Refusal) → Comes o (con_refuted p k con s) (Refuses e) → Comes o (all_refuted p s (k ∷ ks) (con ∷ cs)) (Refuses e)
    refuted-stop e x = off o (con_refuted p k con s) (λ (u : Unit {0}). all_refuted p s ks cs) e x

-- ---- the whole pattern

module _ (o : Over) (g : Signature Term) (f : ℕ) (p : Pos) (j : ℕ) (l : Left) where
  abbrev T : Term
  T = type_at l.context (spot_at l j)

  abbrev whole : R.AtFamily → Reads (Unit {0})
  whole a = all_refuted p (absurd_split f l a (spot_at l j)) (cons_of g a.fam) a.decl.cons

  abbrev stays_there : Unit {0} → Reads Read
  stays_there u = gives (reads AbsurdPat l)

  abbrev after_data : R.AtFamily → Reads Read
  after_data a = whole a >>= stays_there

  data-first : (r : Outcome Refusal Read) → Comes o (data_read g p T >>= after_data) r → Comes o (absurd_pattern g f p j l) r
  data-first r x = regroup o (shows p T) (λ (w : Answer). Is (data_or p (at_family g w))) after_data r x

  pub data-refused : (q : Pool) (e : LhsError) → RefusedBy q (λ (r : Refusal). Comes o (data_read g p T) (Refuses r)) e → RefusedBy q (λ (r : Refusal). Comes o (absurd_pattern g f p j l) (Refuses r)) e
  data-refused q e h = refused-as q (λ (r : Refusal). Comes o (data_read g p T) (Refuses r)) (λ (r : Refusal). Comes o (absurd_pattern g f p j l) (Refuses r))
      (λ (r : Refusal) (x : Comes o (data_read g p T) (Refuses r)). data-first (Refuses r) (off o (data_read g p T) after_data r x)) e h

  module _ (a : R.AtFamily) (x : Comes o (data_read g p T) (Gives a)) where
    pub is-absurd : Comes o (whole a) (Gives tt) → Comes o (absurd_pattern g f p j l) (Gives (reads AbsurdPat l))
    is-absurd y = data-first (Gives (reads AbsurdPat l)) (on o (data_read g p T) after_data a (Gives (reads AbsurdPat l)) x (on o (whole a) stays_there tt (Gives (reads AbsurdPat l)) y refl))

    pub not-absurd : (r : Refusal) → Comes o (whole a) (Refuses r) → Comes o (absurd_pattern g f p j l) (Refuses r)
    not-absurd r y = data-first (Refuses r) (on o (data_read g p T) after_data a (Refuses r) x (off o (whole a) stays_there r y))

-- ---- the variable

module _ (p : Pool) (m : ℕ) where
  spot-within : (s : CodeSpot) (k : ℕ) → SpotBelow (length p.trees) m s → spot_in (tree p) s ≡ AtVar k → k < m
  spot-within (S.Var i) k l e = let h : i ≡ k = cc e in omega (arith, l, h)
  spot-within (S.Value v) k l e = absurd (cc e)
  spot-within S.Con k l e = absurd (cc e)

  spots-within : (ss : List CodeSpot) (j k : ℕ) → AllByRecursion (SpotBelow (length p.trees) m) ss → spot_or (slice_get (map (spot_in (tree p)) ss) j) ≡ AtVar k → k < m
  spots-within [] j k a e = absurd (cc e)
  spots-within (s ∷ ss) zero k a e = spot-within s k a.0 e
  spots-within (s ∷ ss) (suc j) k a e = spots-within ss j k a.1 e

pub variable-within : (p : Pool) (l : CodeLeft) (j k : ℕ) → LeftBelow (length p.trees) l → spot_at (left_in p l) j ≡ AtVar k → k < length l.context.items
variable-within p l j k b e = spots-within p (length l.context.items) l.spots.items j k b.spots e

pub level-within : (n : ℕ) (s : Spot) → ((k : ℕ) → s ≡ AtVar k → k < n) → level_of n s ≤ n
level-within n (AtVar i) h = let l = h i refl in omega (arith, l)
level-within n (AtValue v) h = omega arith
level-within n AtCon h = omega arith

-- its split is that of the rules
pub absurd-is : (p : Pool) (g : Signature Term) (f : ℕ) (l : CodeLeft) (r : R.AtFamily) (a : AtFamily) → IsAt p g r a → (s : Spot) → ((k : ℕ) → s ≡ AtVar k → k < length l.context.items)
    → IsSplit p l.context.items (level_of (length l.context.items) s) a (absurd_split f (left_in p l) r s)
absurd-is p g f l r a i (AtVar k) h = split-var p g f l r a i k (h k refl)
absurd-is p g f l r a i (AtValue v) h = absurd-new p g f l r a i (AtValue v) (λ k e. absurd (cc e))
absurd-is p g f l r a i AtCon h = absurd-new p g f l r a i AtCon (λ k e. absurd (cc e))

-- ---- the constructors of a family

pub cons-are : (p : Pool) (g : Signature ℕ) (r : R.AtFamily) (a : AtFamily) (d : FamDecl ℕ) → IsAt p (signature_in p g) r a → fam_decl g a.fam ≡ Some d → r.decl.cons ≡ map (con_map (tree p)) (decl_cons (fam_decl g a.fam))
cons-are p g r a d i e =
    ap (λ (x : FamDecl Term). x.cons) (family-decl p g r a d i e) ∙ ap (λ (o : Option (FamDecl ℕ)). map (con_map (tree p)) (decl_cons o)) (sym e)

pub decl-cons-are : (o : Option (FamDecl ℕ)) (d : FamDecl ℕ) (cs : List (ConDecl ℕ)) → o ≡ Some d → IfSome o (λ (x : FamDecl ℕ). cs ≡ x.cons) → cs ≡ decl_cons o
decl-cons-are o d cs e h = subst (λ (v : Option (FamDecl ℕ)). IfSome v (λ (x : FamDecl ℕ). cs ≡ x.cons)) e h ∙ ap decl_cons (sym e)

pub ids-are : (p : Pool) (g : Signature ℕ) (d : ℕ) (ks : List ℕ) → ks ≡ cons_of g d → ks ≡ cons_of (signature_in p g) d
ids-are p g d ks e = e ∙ sym (ap (λ (ns : List ℕ). ids_of ns d) (con_counts-map (tree p) g))
