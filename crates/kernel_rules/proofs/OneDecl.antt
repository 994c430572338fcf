-- A family, a tree and a declaration have one outcome at most.
use Rattle.std.specs.Prelude.{ℕ, Bool, eqb, List, [], ◌∷◌, ◌++◌, length, reverse, slice_get}
use Rattle.std.proofs.Common.{sym, ◌∙◌, ap}
use Rattle.core_rules.specs.Term.{Term, Var, App, Def, Proj}
use Rattle.core_rules.specs.Substitution.{shift, under}
use Rattle.core_rules.specs.Signature.{Telescope, Context, onto, Branch, Tree, Leaf, Intro, Cosplit, Split, RecordSplit, Absurd, CoBranches, NoField, OnField, ConBranches, NoCon, Refuted, Goes, ConDecl, FamDecl, Decl, Postulate, Family, Open, Function, Signature, defs, fams, without_cons, cons_of, fields_of}
use Rattle.core_rules.specs.Typing.{entry}
use Rattle.core_rules.specs.Unification.{Equation}
use Rattle.core_rules.specs.TypedTree.{Splitting, con_context, with_con, index_equations}
use Rattle.kernel_rules.specs.Outcome.{Outcome, Gives}
use Rattle.kernel_rules.specs.TermReading.{form_shown, spine_shown}
use Rattle.kernel_rules.specs.Refusals.{DeclRefusal, ConShape, TooBig, BadTree, Demands}
use Rattle.core_rules.specs.Elimination.{con_end}
use Rattle.kernel_rules.specs.FamilyReading.{none_above, LevelsOf, ConOf, ConsOf, FamilyOf}
use Rattle.core_rules.specs.UnifierAnswers.{Unified, HasOneAnswer, Unifier}
use Rattle.kernel_rules.specs.TreeReading.{pi_shown, family_shown, record_shown, entry_shown, can_split, first_con, split_at, branch_by, refuted_by, IsItsBranch, same, other, ShowsFamily, ShowsSplit, ValuesOf, Unifies, AllRefutedOf, BranchOf, TreeOf, FieldsOf, BranchesOf}
use Rattle.kernel_rules.specs.DeclReading.{DeclOf}
use Rattle.kernel_rules.proofs.Outcome.{IsOne, one-is, one-then}
use Rattle.kernel_rules.proofs.OneTerm.{one-seen, one-is_type, one-checked}

one-demand : (w : Bool) (e : DeclRefusal) → IsOne (Demands w e)
one-demand w e r q x y = x ∙ sym y

one-its_branch : (b b' : Branch Term) → IsOne (IsItsBranch b b')
one-its_branch b b' r q (same h e) (same i f) = e ∙ sym f
one-its_branch b b' r q (same h e) (other i f) = absurd (i h)
one-its_branch b b' r q (other h e) (same i f) = absurd (h i)
one-its_branch b b' r q (other h e) (other i f) = e ∙ sym f

module _ (g : Signature Term) (fuel depth : ℕ) where
  one-levels : (c : Context Term) (es : Telescope Term) → IsOne (LevelsOf g fuel depth c es)
  one-levels c [] r q x y = x ∙ sym y
  one-levels c (e ∷ es) r q x y = one-then (one-is_type g fuel depth c e.ty) (λ n. one-then (one-levels (e ∷ c) es) (λ ns. one-is (Gives (n ∷ ns)))) r q x y

  one-con : (n : ℕ) (d : FamDecl Term) (k : ConDecl Term) → IsOne (ConOf g fuel depth n d k)
  one-con n d k r q x y =
      one-then (one-levels (onto d.params []) k.args) (λ ns. one-then (one-demand (eqb (length k.indices) (length d.indices)) ConShape)
      (λ o. one-then (one-is_type g fuel depth (onto k.args (onto d.params [])) (con_end n d k)) (λ m. one-demand (none_above d.level ns) TooBig))) r q x y

  one-cons : (n : ℕ) (d : FamDecl Term) (ks : List (ConDecl Term)) → IsOne (ConsOf g fuel depth n d ks)
  one-cons n d [] r q x y = x ∙ sym y
  one-cons n d (k ∷ ks) r q x y = one-then (one-con n d k) (λ o. one-cons n d ks) r q x y

  one-var : (c : Context Term) (k : ℕ) → IsOne (ShowsFamily g fuel depth c k)
  one-var c k r q x y = one-then (one-is (entry_shown (slice_get c k))) (λ e. one-then (one-seen g fuel depth spine_shown e.ty) (λ p. one-is (family_shown g p.0 p.1))) r q x y

  one-split : (c : Context Term) (k : ℕ) → IsOne (ShowsSplit g fuel depth c k)
  one-split c k r q x y = one-then (one-var c k) (λ f. one-then (one-demand (can_split f.decl) BadTree) (λ o. one-is (Gives f))) r q x y

  one-values : (c' : Context Term) (ts : List Term) (es : Context Term) → IsOne (ValuesOf g fuel depth c' ts es)
  one-values c' [] [] r q x y = x ∙ sym y
  one-values c' [] (e ∷ es) r q x y = x ∙ sym y
  one-values c' (t ∷ ts) [] r q x y = x ∙ sym y
  one-values c' (t ∷ ts) (e ∷ es) r q x y = one-then (one-values c' ts es) (λ o. one-then (one-checked g fuel depth c' t (under ts e.ty)) (λ o. one-is (Gives tt))) r q x y

  module _ (U : Unifier) (one : HasOneAnswer U) where
    one-unifies : {A : Type 0} (f : Unified → Outcome DeclRefusal A) (c : Context Term) (es : List Equation) → IsOne (Unifies g fuel depth U f c es)
    one-unifies f c es r q x y = x.2 ∙ ap f (one c es x.0 y.0 x.1 y.1) ∙ sym y.2

    one-refuted : (s : Splitting) (ks : List ℕ) (cons : List (ConDecl Term)) → IsOne (AllRefutedOf g fuel depth U s ks cons)
    one-refuted s [] [] r q x y = x ∙ sym y
    one-refuted s [] (con ∷ cons) r q x y = x ∙ sym y
    one-refuted s (k ∷ ks) [] r q x y = x ∙ sym y
    one-refuted s (k ∷ ks) (con ∷ cons) r q x y = one-then (one-unifies refuted_by (con_context s k con.args) (index_equations s con)) (λ o. one-refuted s ks cons) r q x y

    one-branch : (s : Splitting) (k : ℕ) (con : ConDecl Term) (b : Branch Term) → IsOne (BranchOf g fuel depth U s k con b)
    one-branch s k con b r q x y =
        one-then (one-unifies branch_by (con_context s k con.args) (index_equations s con)) (λ b'. one-then (one-its_branch b b')
        (λ o. one-then (one-levels [] b.context) (λ ns. one-values (onto b.context []) b.values (con_context s k con.args)))) r q x y

    mutual
      pub one-tree : (c : Context Term) (T : Tree Term) (a l : Term) → IsOne (TreeOf g fuel depth U c T a l)
      one-tree c (Leaf t n) a l r q x y = one-then (one-checked g fuel depth c t a) (λ o. one-is (Gives tt)) r q x y
      one-tree c (Intro T) a l r q x y =
          one-then (one-seen g fuel depth form_shown a) (λ h. one-then (one-is (pi_shown h)) (λ p. one-tree (entry p.flag p.name p.dom ∷ c) T p.cod (App p.flag (shift l 0 1) (Var 0)))) r q x y
      one-tree c (Cosplit bs) a l r q x y =
          one-then (one-seen g fuel depth spine_shown a) (λ p. one-then (one-is (record_shown g p.0 p.1)) (λ f. one-then (one-demand f.decl.is_record BadTree)
          (λ o. one-fields c l (reverse f.params) (fields_of g f.fam) f.decl.fields bs))) r q x y
      one-tree c (Split k bs) a l r q x y = one-then (one-split c k) (λ f. one-branches (split_at c k f a l) (cons_of g f.fam) f.decl.cons bs) r q x y
      one-tree c (RecordSplit k d T) a l r q x y =
          one-then (one-var c k) (λ f. one-then (one-demand (eqb f.fam d) BadTree) (λ o. one-then (one-demand f.decl.eta BadTree) (λ o. one-then (one-is (first_con (cons_of g d)))
          (λ n. one-tree (con_context (split_at c k f a l) n f.decl.fields) T (with_con (split_at c k f a l) n f.decl.fields a) (with_con (split_at c k f a l) n f.decl.fields l))))) r q x y
      one-tree c (Absurd k) a l r q x y = one-then (one-split c k) (λ f. one-refuted (split_at c k f a l) (cons_of g f.fam) f.decl.cons) r q x y

      one-fields : (c : Context Term) (l : Term) (e : List Term) (fs : List ℕ) (xs : Telescope Term) (bs : CoBranches Term) → IsOne (FieldsOf g fuel depth U c l e fs xs bs)
      one-fields c l e [] [] NoField r q x y = x ∙ sym y
      one-fields c l e [] (z ∷ xs) NoField r q x y = x ∙ sym y
      one-fields c l e (f ∷ fs) [] NoField r q x y = x ∙ sym y
      one-fields c l e (f ∷ fs) (z ∷ xs) NoField r q x y = x ∙ sym y
      one-fields c l e [] [] (OnField n T bs) r q x y = x ∙ sym y
      one-fields c l e [] (z ∷ xs) (OnField n T bs) r q x y = x ∙ sym y
      one-fields c l e (f ∷ fs) [] (OnField n T bs) r q x y = x ∙ sym y
      one-fields c l e (f ∷ fs) (z ∷ xs) (OnField n T bs) r q x y =
          one-then (one-demand (eqb n f) BadTree) (λ o. one-then (one-tree c T (under e z.ty) (Proj f l)) (λ o. one-fields c l (Proj f l ∷ e) fs xs bs)) r q x y

      one-branches : (s : Splitting) (ks : List ℕ) (cons : List (ConDecl Term)) (bs : ConBranches Term) → IsOne (BranchesOf g fuel depth U s ks cons bs)
      one-branches s [] [] NoCon r q x y = x ∙ sym y
      one-branches s [] (con ∷ cons) NoCon r q x y = x ∙ sym y
      one-branches s (k ∷ ks) [] NoCon r q x y = x ∙ sym y
      one-branches s (k ∷ ks) (con ∷ cons) NoCon r q x y = x ∙ sym y
      one-branches s [] [] (Refuted n bs) r q x y = x ∙ sym y
      one-branches s [] (con ∷ cons) (Refuted n bs) r q x y = x ∙ sym y
      one-branches s (k ∷ ks) [] (Refuted n bs) r q x y = x ∙ sym y
      one-branches s (k ∷ ks) (con ∷ cons) (Refuted n bs) r q x y =
          one-then (one-demand (eqb n k) BadTree) (λ o. one-then (one-unifies refuted_by (con_context s k con.args) (index_equations s con)) (λ o. one-branches s ks cons bs)) r q x y
      one-branches s [] [] (Goes n b T bs) r q x y = x ∙ sym y
      one-branches s [] (con ∷ cons) (Goes n b T bs) r q x y = x ∙ sym y
      one-branches s (k ∷ ks) [] (Goes n b T bs) r q x y = x ∙ sym y
      one-branches s (k ∷ ks) (con ∷ cons) (Goes n b T bs) r q x y =
          one-then (one-demand (eqb n k) BadTree) (λ o. one-then (one-branch s k con b)
          (λ o. one-then (one-tree (onto b.context []) T (under b.values (with_con s k con.args s.ty)) (under b.values (with_con s k con.args s.left))) (λ o. one-branches s ks cons bs))) r q x y

pub one-family : (g : Signature Term) (fuel depth : ℕ) (d : FamDecl Term) → IsOne (FamilyOf g fuel depth d)
one-family g fuel depth d r q x y =
    one-then (one-levels g fuel depth [] d.params) (λ ns. one-then (one-levels g fuel depth (onto d.params []) d.indices)
    (λ ms. one-cons (g ++ Family (without_cons d) ∷ []) fuel depth (length (fams g)) d d.cons)) r q x y

pub one-decl : (U : Signature Term → Unifier) (g : Signature Term) (fuel depth : ℕ) → ((h : Signature Term) → HasOneAnswer (U h)) → (d : Decl Term) → IsOne (DeclOf U g fuel depth d)
one-decl U g fuel depth one (Postulate z a) r q x y = one-then (one-is_type g fuel depth [] a) (λ n. one-is (Gives tt)) r q x y
one-decl U g fuel depth one (Family d) r q x y = one-family g fuel depth d r q x y
one-decl U g fuel depth one (Open z a) r q x y = x ∙ sym y
one-decl U g fuel depth one (Function z a qs T) r q x y =
    one-then (one-is_type g fuel depth [] a) (λ n. one-tree (g ++ Open z a ∷ []) fuel depth (U (g ++ Open z a ∷ [])) (one (g ++ Open z a ∷ [])) [] T a (Def (length (defs g)))) r q x y
