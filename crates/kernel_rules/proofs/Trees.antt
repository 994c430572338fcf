-- A tree that is accepted is typed.
use Rattle.std.specs.Prelude.{◌≡◌, ℕ, ◌+◌, List, [], ◌∷◌, length, reverse, refl, slice_get, Some}
use Rattle.std.specs.List.{AllByRecursion}
use Rattle.std.proofs.Common.{ap, sym, ◌∙◌, arith, subst as transport}
use Rattle.std.proofs.lemmas.Bool.{eqb-true}
use Rattle.core_rules.specs.Term.{Term, Var, App, Proj}
use Rattle.core_rules.specs.Substitution.{shift, under}
use Rattle.core_rules.specs.Signature.{Telescope, Context, onto, Branch, Tree, Leaf, Intro, Cosplit, Split, RecordSplit, Absurd, CoBranches, NoField, OnField, ConBranches, NoCon, Refuted, Goes, ConDecl, Signature, cons_of, fields_of}
use Rattle.core_rules.specs.Conversion.{Conv}
use Rattle.core_rules.specs.Typing as T
use Rattle.core_rules.specs.Typing.{Typing, Fits, entry}
use Rattle.core_rules.specs.InScope.{VarsBelow}
use Rattle.core_rules.specs.Unification.{Equation, Solution, Solves, Refutes, Joins, Realises}
use Rattle.core_rules.specs.TypedTree as Y
use Rattle.core_rules.specs.TypedTree.{Splitting, con_context, with_con, index_equations, TypedTree, TypedFields, TypedBranches, AllRefuted}
use Rattle.core_rules.specs.NameLaws.{AreSameTerms}
use Rattle.core_rules.proofs.Names.Alike.{each_of}
use Rattle.core_rules.proofs.Names.Joined.{joins-named}
use Rattle.core_rules.proofs.Typing.Scoped.{length-onto}
use Rattle.core_rules.proofs.Trees.Scoped.{con_place_of}
use Rattle.kernel_rules.specs.Outcome.{Gives}
use Rattle.kernel_rules.specs.TermReading.{InferOf, CheckOf}
use Rattle.core_rules.specs.TreeLaws.{IsSound}
use Rattle.core_rules.specs.UnifierAnswers.{Unified, UnifiedBy, NeverUnified, StuckAt, NoFuel, NoDepth, IsUnified, IsUnifier, Unifier}
use Rattle.kernel_rules.specs.TreeReading.{split_at, branch_by, refuted_by, AreSameEntries, IsSameBranch, IsItsBranch, same, other, ValuesOf, IsRefuted, AllRefutedOf, BranchOf, TreeOf, FieldsOf, BranchesOf}
use Rattle.kernel_rules.proofs.Outcome.{one_gives, then-gives}
use Rattle.kernel_rules.proofs.Sound.{infer_typed, by-check, form-converts, spine-converts}
use Rattle.kernel_rules.proofs.Families.{demanded, levels-formed}
use Rattle.kernel_rules.proofs.Shown.{pi-is, record-is, is-at, var-is, split-is, first-is}

same-length : (es fs : Telescope Term) → AreSameEntries es fs → length es ≡ length fs
same-length [] [] h = refl
same-length [] (f ∷ fs) h = absurd h
same-length (e ∷ es) [] h = absurd h
same-length (e ∷ es) (f ∷ fs) h = let n = same-length es fs h.2 in omega (arith, n)

its-same : (b b' : Branch Term) → IsItsBranch b b' (Gives tt) → IsSameBranch b b'
its-same b b' (same h e) = h
its-same b b' (other h e) = absurd cc

turned : (ts us : List Term) → AreSameTerms ts us → AreSameTerms us ts
turned [] [] h = tt
turned (t ∷ ts) (u ∷ us) h = (sym h.0, turned ts us h.1)
turned [] (u ∷ us) h = absurd h
turned (t ∷ ts) [] h = absurd h

-- a branch that differs in names at most joins alike
joins-same : (c : Context Term) (ss : List Solution) (b b' : Branch Term) → IsSameBranch b b' → Joins c ss (onto b'.context []) b'.values b'.keep → Joins c ss (onto b.context []) b.values b.keep
joins-same c ss b b' s j =
    let n : length (onto b'.context []) ≡ length (onto b.context []) = length-onto b'.context [] ∙ (ap (λ n. n + 0) (sym (same-length b.context b'.context s.context)) ∙ sym (length-onto b.context [])) in
    let k : Joins c ss (onto b'.context []) b.values b'.keep = joins-named c (onto b'.context []) ss b'.values b.values b'.keep (each_of b'.values b.values (turned b.values b'.values s.values)) j in
    record {
      long = k.long;
      scoped = transport (λ n. AllByRecursion (λ t. VarsBelow n t) b.values) n k.scoped;
      values = k.values;
      as_many = ap length s.keep ∙ (k.as_many ∙ n);
      kept = λ i q e. k.kept i q (transport (λ w. slice_get w i ≡ Some q) s.keep e);
    }

module _ (g : Signature Term) (fuel depth : ℕ) (k : IsSound g) where
  check_typed : (c : Context Term) (t a : Term) → CheckOf g fuel depth c t a (Gives tt) → Typing g c t a
  check_typed c t a h = by-check g fuel depth k c t (InferOf g fuel depth c t) (infer_typed g fuel depth k c t) a h

  values-fit : (c' : Context Term) (r : List Term) (es : Context Term) → ValuesOf g fuel depth c' r es (Gives tt) → Fits g c' r es
  values-fit c' [] [] h = T.none
  values-fit c' [] (e ∷ es) h = absurd cc
  values-fit c' (t ∷ ts) [] h = absurd cc
  values-fit c' (t ∷ ts) (e ∷ es) h =
      let h1 = then-gives h in
      let h2 = then-gives h1.2 in
      T.more (values-fit c' ts es h1.1) (check_typed c' t (under ts e.ty) h2.1)

  module _ (U : Unifier) (u : IsUnifier g U) where
    refuted-by : (c : Context Term) (es : List Equation) (v : Unified) → U c es v → Gives tt ≡ refuted_by v → Refutes g c es
    refuted-by c es NeverUnified h e = u.never c es h
    refuted-by c es (UnifiedBy ss b) h e = absurd cc
    refuted-by c es (StuckAt t w) h e = absurd cc
    refuted-by c es NoFuel h e = absurd cc
    refuted-by c es NoDepth h e = absurd cc

    unified-by : (c : Context Term) (es : List Equation) (v : Unified) (b : Branch Term) → U c es v → Gives b ≡ branch_by v → (ss : List Solution) × IsUnified g c es ss b
    unified-by c es (UnifiedBy ss x) b h e = (ss, transport (IsUnified g c es ss) (sym (one_gives e)) (u.unified c es ss x h))
    unified-by c es NeverUnified b h e = absurd cc
    unified-by c es (StuckAt t w) b h e = absurd cc
    unified-by c es NoFuel b h e = absurd cc
    unified-by c es NoDepth b h e = absurd cc

    is-refuted : (s : Splitting) (q : ℕ) (con : ConDecl Term) → IsRefuted g fuel depth U s q con (Gives tt) → Refutes g (con_context s q con.args) (index_equations s con)
    is-refuted s q con h = refuted-by (con_context s q con.args) (index_equations s con) h.0 h.1 h.2

    pub all-refuted : (s : Splitting) (ks : List ℕ) (cons : List (ConDecl Term)) → AllRefutedOf g fuel depth U s ks cons (Gives tt) → AllRefuted g s ks cons
    all-refuted s [] [] h = Y.none_left
    all-refuted s [] (con ∷ cons) h = absurd cc
    all-refuted s (q ∷ ks) [] h = absurd cc
    all-refuted s (q ∷ ks) (con ∷ cons) h = let h1 = then-gives h in Y.one_refuted (is-refuted s q con h1.1) (all-refuted s ks cons h1.2)

    record BranchIs (s : Splitting) (q : ℕ) (con : ConDecl Term) (b : Branch Term) : Type 0 where
      solutions : List Solution
      solves : Solves g (con_context s q con.args) (index_equations s con) solutions
      realises : Realises g (con_context s q con.args) solutions (onto b.context []) b.values b.keep

    branch-is : (s : Splitting) (q : ℕ) (con : ConDecl Term) (b : Branch Term) → BranchOf g fuel depth U s q con b (Gives tt) → BranchIs s q con b
    branch-is s q con b h =
        let h1 = then-gives h in
        let h2 = then-gives h1.2 in
        let h3 = then-gives h2.2 in
        let v = unified-by (con_context s q con.args) (index_equations s con) h1.1.0 h1.0 h1.1.1 h1.1.2 in
        record {
          solutions = v.0;
          solves = v.1.solves;
          realises = record {
            joins = joins-same (con_context s q con.args) v.0 b h1.0 (its-same b h1.0 h2.1) v.1.joins;
            formed = levels-formed g fuel depth k b.context [] h3.0 h3.1 T.empty;
            fits = values-fit (onto b.context []) b.values (con_context s q con.args) h3.2;
          };
        }

    mutual
      pub tree-typed : (c : Context Term) (T : Tree Term) (a l : Term) → TreeOf g fuel depth U c T a l (Gives tt) → TypedTree g c T a l
      tree-typed c (Leaf t n) a l h = let h1 = then-gives h in Y.leaf (check_typed c t a h1.1)
      tree-typed c (Intro T) a l h =
          let h1 = then-gives h in
          let h2 = then-gives h1.2 in
          let p = h2.0 in
          Y.intro {b = p.flag} {x = p.name} (transport (Conv g a) (pi-is h1.0 p h2.1) (form-converts g fuel depth k a h1.1.0 h1.0 h1.1.1 h1.1.2))
          (tree-typed (entry p.flag p.name p.dom ∷ c) T p.cod (App p.flag (shift l 0 1) (Var 0)) h2.2)
      tree-typed c (Cosplit bs) a l h =
          let h1 = then-gives h in
          let h2 = then-gives h1.2 in
          let h3 = then-gives h2.2 in
          let f = h2.0 in
          let is = record-is g h1.0.0 h1.0.1 f h2.1 in
          Y.cosplit f.fam f.params is.is_decl (demanded _ _ _ h3.1) is.as_many (transport (Conv g a) is.is (spine-converts g fuel depth k a h1.1.0 h1.0 h1.1.1 h1.1.2))
          (fields-typed c l (reverse f.params) (fields_of g f.fam) f.decl.fields bs h3.2)
      tree-typed c (Split i bs) a l h =
          let h1 = then-gives h in
          let f = h1.0 in
          let v = split-is g fuel depth k c i f h1.1 in
          Y.split (is-at g c i f.fam f refl v.0) v.1 (branches-typed (split_at c i f a l) (cons_of g f.fam) f.decl.cons bs h1.2)
      tree-typed c (RecordSplit i d T) a l h =
          let h1 = then-gives h in
          let h2 = then-gives h1.2 in
          let h3 = then-gives h2.2 in
          let h4 = then-gives h3.2 in
          let f = h1.0 in
          let n = h4.0 in
          let v = var-is g fuel depth k c i f h1.1 in
          let s = split_at c i f a l in
          Y.record_split n (is-at g c i d f (eqb-true f.fam d (demanded _ _ _ h2.1)) v) (demanded _ _ _ h3.1) (con_place_of g d 0 n (first-is (cons_of g d) n h4.1))
          (tree-typed (con_context s n f.decl.fields) T (with_con s n f.decl.fields a) (with_con s n f.decl.fields l) h4.2)
      tree-typed c (Absurd i) a l h =
          let h1 = then-gives h in
          let f = h1.0 in
          let v = split-is g fuel depth k c i f h1.1 in
          Y.absurd_split (is-at g c i f.fam f refl v.0) v.1 (all-refuted (split_at c i f a l) (cons_of g f.fam) f.decl.cons h1.2)

      fields-typed : (c : Context Term) (l : Term) (e : List Term) (fs : List ℕ) (xs : Telescope Term) (bs : CoBranches Term) → FieldsOf g fuel depth U c l e fs xs bs (Gives tt) → TypedFields g c l e fs xs bs
      fields-typed c l e [] [] NoField h = Y.no_field
      fields-typed c l e [] (x ∷ xs) NoField h = absurd cc
      fields-typed c l e (f ∷ fs) [] NoField h = absurd cc
      fields-typed c l e (f ∷ fs) (x ∷ xs) NoField h = absurd cc
      fields-typed c l e [] [] (OnField n T bs) h = absurd cc
      fields-typed c l e [] (x ∷ xs) (OnField n T bs) h = absurd cc
      fields-typed c l e (f ∷ fs) [] (OnField n T bs) h = absurd cc
      fields-typed c l e (f ∷ fs) (x ∷ xs) (OnField n T bs) h =
          let h1 = then-gives h in
          let h2 = then-gives h1.2 in
          let same : n ≡ f = eqb-true n f (demanded _ _ _ h1.1) in
          transport (λ n. TypedFields g c l e (f ∷ fs) (x ∷ xs) (OnField n T bs)) (sym same) (Y.on_field (tree-typed c T (under e x.ty) (Proj f l) h2.1) (fields-typed c l (Proj f l ∷ e) fs xs bs h2.2))

      branches-typed : (s : Splitting) (ks : List ℕ) (cons : List (ConDecl Term)) (bs : ConBranches Term) → BranchesOf g fuel depth U s ks cons bs (Gives tt) → TypedBranches g s ks cons bs
      branches-typed s [] [] NoCon h = Y.no_con
      branches-typed s [] (con ∷ cons) NoCon h = absurd cc
      branches-typed s (q ∷ ks) [] NoCon h = absurd cc
      branches-typed s (q ∷ ks) (con ∷ cons) NoCon h = absurd cc
      branches-typed s [] [] (Refuted n bs) h = absurd cc
      branches-typed s [] (con ∷ cons) (Refuted n bs) h = absurd cc
      branches-typed s (q ∷ ks) [] (Refuted n bs) h = absurd cc
      branches-typed s (q ∷ ks) (con ∷ cons) (Refuted n bs) h =
          let h1 = then-gives h in
          let h2 = then-gives h1.2 in
          let same : n ≡ q = eqb-true n q (demanded _ _ _ h1.1) in
          transport (λ n. TypedBranches g s (q ∷ ks) (con ∷ cons) (Refuted n bs)) (sym same) (Y.refuted (is-refuted s q con h2.1) (branches-typed s ks cons bs h2.2))
      branches-typed s [] [] (Goes n b T bs) h = absurd cc
      branches-typed s [] (con ∷ cons) (Goes n b T bs) h = absurd cc
      branches-typed s (q ∷ ks) [] (Goes n b T bs) h = absurd cc
      branches-typed s (q ∷ ks) (con ∷ cons) (Goes n b T bs) h =
          let h1 = then-gives h in
          let h2 = then-gives h1.2 in
          let h3 = then-gives h2.2 in
          let same : n ≡ q = eqb-true n q (demanded _ _ _ h1.1) in
          let v = branch-is s q con b h2.1 in
          transport (λ n. TypedBranches g s (q ∷ ks) (con ∷ cons) (Goes n b T bs)) (sym same)
          (Y.goes v.solves v.realises (tree-typed (onto b.context []) T (under b.values (with_con s q con.args s.ty)) (under b.values (with_con s q con.args s.left)) h3.1) (branches-typed s ks cons bs h3.2))
