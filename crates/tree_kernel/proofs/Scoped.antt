-- A tree in scope asks the unifier for equations in scope alone, so that what is accepted with the unifier's outcomes is accepted with its
-- answers to equations in scope.
use Rattle.std.specs.Prelude.{◌≡◌, ℕ, ◌+◌, ◌-◌, ◌<◌, map, sum, suc, Option, None, List, [], ◌∷◌, length, reverse, slice_get, Some, refl}
use Rattle.std.specs.Option.{option_map_or}
use Rattle.std.specs.List.{AllByRecursion}
use Rattle.std.proofs.Common.{ap, sym, ◌∙◌, arith, subst as transport}
use Rattle.std.proofs.lemmas.Bool.{eqb-true}
use Rattle.core_rules.specs.Term.{Term, Terms, Var, Sort, Pi, Lam, App, Def, Fam, Con, Proj, Meta, End, And}
use Rattle.core_rules.specs.Substitution.{shift, under}
use Rattle.core_rules.specs.Signature.{Telescope, Context, onto, Branch, Tree, Leaf, Intro, Cosplit, Split, RecordSplit, Absurd, CoBranches, NoField, OnField}
use Rattle.core_rules.specs.Signature.{ConBranches, NoCon, Refuted, Goes, ConDecl, Signature, fam_decl, field_counts, cons_of, fields_of, Entry}
use Rattle.core_rules.specs.Typing.{entry}
use Rattle.core_rules.specs.Unification.{Equation}
use Rattle.core_rules.specs.UnifierAnswers.{Unified}
use Rattle.core_rules.specs.TypedTree.{Splitting, con_context, with_con, index_equations}
use Rattle.core_rules.specs.InScope.{InScope, AllInScope, VarsBelow, AllVarsBelow, TelescopeInScope, ConInScope, SignatureInScope, TreeInScope}
use Rattle.core_rules.specs.InScope.{CoBranchesInScope, ConBranchesInScope, con_params, field_count, any_meta}
use Rattle.core_rules.specs.ScopeLaws.{ContextInScope, EquationInScope, SplittingInScope}
use Rattle.core_rules.specs.TreeLaws.{IsSound}
use Rattle.core_rules.proofs.Scope.Changed.{shift-in_scope, under-in_scope, each-reverse}
use Rattle.core_rules.proofs.Scope.Opened.{context-in_scope, with-in_scope, equations-in_scope}
use Rattle.core_rules.proofs.Scope.Declared.{fields-in_scope, projections-in_scope, all_got}
use Rattle.core_rules.proofs.Typing.Scoped.{length-onto}
use Rattle.core_rules.proofs.Trees.Scoped.{length-con_context}
use Rattle.kernel_rules.specs.Outcome.{Outcome, Gives, goes_on}
use Rattle.kernel_rules.specs.Refusals.{DeclRefusal}
use Rattle.kernel_rules.specs.TreeReading.{FamilyAt, entry_shown, split_at, branch_by, refuted_by, ShowsFamily, ShowsSplit, IsRefuted, AllRefutedOf, BranchOf}
use Rattle.kernel_rules.specs.TreeReading.{TreeOf, FieldsOf, BranchesOf, Unifies}
use Rattle.kernel_rules.proofs.Outcome.{one_gives, then-gives}
use Rattle.kernel_rules.proofs.Families.{demanded}
use Rattle.kernel_rules.proofs.Shown.{var-is, pi-is, record-is, first-is}
use Rattle.unify_rules.specs.Answered.{UnifiesTo, in_scope, EquationsBelow}
use Rattle.tree_kernel.specs.Reading.{UnifiesAs}
use Rattle.tree_kernel.proofs.Parts.{In, family-in, record-in, entry-in, cons-at, form-in, spine-in, decls-in}

entry-is : (o : Option (Entry Term)) (e : Entry Term) → Gives e ≡ entry_shown o → o ≡ Some e
entry-is None e h = absurd cc
entry-is (Some x) e h = ap Some (sym (one_gives h))

mutual
  below : (g : Signature Term) (n : ℕ) (t : Term) → InScope g any_meta n t → VarsBelow n t
  below g n (Var i) h = h
  below g n (Sort l) h = tt
  below g n (Pi b x a t) h = (below g n a h.0, below g (n + 1) t h.1)
  below g n (Lam b x a t) h = (below g n a h.0, below g (n + 1) t h.1)
  below g n (App b t u) h = (below g n t h.0, below g n u h.1)
  below g n (Def f) h = tt
  below g n (Fam d) h = tt
  below g n (Con k ts) h = all_below g n ts h.1
  below g n (Proj f t) h = below g n t h.1
  below g n (Meta m ts) h = all_below g n ts h.1

  all_below : (g : Signature Term) (n : ℕ) (ts : Terms) → AllInScope g any_meta n ts → AllVarsBelow n ts
  all_below g n End h = tt
  all_below g n (And t ts) h = (below g n t h.0, all_below g n ts h.1)

equations-below : (g : Signature Term) (c : Context Term) (es : List Equation) → AllByRecursion (EquationInScope g any_meta (length c)) es → EquationsBelow c es
equations-below g c [] h = tt
equations-below g c (e ∷ es) h = ((below g (length c) e.left h.0.0, below g (length c) e.right h.0.1), equations-below g c es h.1)

-- the ids of the fields of a record are ids of fields
fields-at : (g : Signature Term) (d : ℕ) → AllByRecursion (λ f. f < sum (field_counts g)) (fields_of g d)
fields-at g d = each_field (fields_of g d) (projections-in_scope g any_meta 0 d (Sort 0) tt)
  where
    each_field : (fs : List ℕ) → AllByRecursion (In g 0) (map (λ f. Proj f (Sort 0)) fs) → AllByRecursion (λ f. f < sum (field_counts g)) fs
    each_field [] h = tt
    each_field (f ∷ fs) h = (h.0.0, each_field fs h.1)

-- the entries of a telescope join a context
onto-in : (g : Signature Term) (n : ℕ) (es : Telescope Term) (c : Context Term) → n ≡ length c → TelescopeInScope g any_meta n es → ContextInScope g any_meta c
    → ContextInScope g any_meta (onto es c)
onto-in g n [] c p h s = s
onto-in g n (e ∷ es) c p h s = onto-in g (n + 1) es (e ∷ c) (omega (arith, p)) h.1 (transport (λ n. In g n e.ty) p h.0, s)

module _ (g : Signature Term) (fuel depth : ℕ) (sound : IsSound g) where
  sig : SignatureInScope g any_meta
  sig = sound.scope

  moved : (m n : ℕ) (t : Term) → m ≡ n → In g m t → In g n t
  moved m n t e h = transport (λ n. In g n t) e h

  asked : {A : Type 0} (f : Unified → Outcome DeclRefusal A) (c : Context Term) (es : List Equation) (r : Outcome DeclRefusal A) → EquationsBelow c es
      → Unifies g fuel depth (UnifiesAs g fuel depth) f c es r → Unifies g fuel depth (UnifiesTo g fuel depth) f c es r
  asked f c es r b h = (h.0, in_scope b h.1.2 h.1.3, h.2)

  -- a split, and the constructors that are left
  record SplitIn (s : Splitting) (ks : List ℕ) (cons : List (ConDecl Term)) : Type 0 where
    split : SplittingInScope g any_meta s
    ty : In g (length s.context) s.ty
    left : In g (length s.context) s.left
    at : AllByRecursion (λ k. con_params g k ≡ Some (length s.params)) ks
    decls : AllByRecursion (ConInScope g any_meta (length s.params)) cons

  later : (s : Splitting) (k : ℕ) (ks : List ℕ) (con : ConDecl Term) (cons : List (ConDecl Term)) → SplitIn s (k ∷ ks) (con ∷ cons) → SplitIn s ks cons
  later s k ks con cons i = record { split = i.split; ty = i.ty; left = i.left; at = i.at.1; decls = i.decls.1 }

  module _ (s : Splitting) (k : ℕ) (ks : List ℕ) (con : ConDecl Term) (cons : List (ConDecl Term)) (i : SplitIn s (k ∷ ks) (con ∷ cons)) where
    its_equations : EquationsBelow (con_context s k con.args) (index_equations s con)
    its_equations = equations-below g (con_context s k con.args) (index_equations s con) (equations-in_scope g any_meta s k i.at.0 i.split con i.decls.0)

    refuted-scoped : IsRefuted g fuel depth (UnifiesAs g fuel depth) s k con (Gives tt) → IsRefuted g fuel depth (UnifiesTo g fuel depth) s k con (Gives tt)
    refuted-scoped h = asked refuted_by (con_context s k con.args) (index_equations s con) (Gives tt) its_equations h

    branch-scoped : (b : Branch Term) → BranchOf g fuel depth (UnifiesAs g fuel depth) s k con b (Gives tt)
        → BranchOf g fuel depth (UnifiesTo g fuel depth) s k con b (Gives tt)
    branch-scoped b h = let h1 = then-gives h in goes_on h1.0
        (asked branch_by (con_context s k con.args) (index_equations s con) (Gives h1.0) its_equations h1.1) h1.2

    with : (t : Term) → In g (length s.context) t → In g (length (con_context s k con.args)) (with_con s k con.args t)
    with t h = with-in_scope g any_meta s k i.at.0 i.split con.args t h

  all-scoped : (s : Splitting) (ks : List ℕ) (cons : List (ConDecl Term)) → SplitIn s ks cons
      → AllRefutedOf g fuel depth (UnifiesAs g fuel depth) s ks cons (Gives tt) → AllRefutedOf g fuel depth (UnifiesTo g fuel depth) s ks cons (Gives tt)
  all-scoped s [] [] i h = h
  all-scoped s [] (con ∷ cons) i h = h
  all-scoped s (k ∷ ks) [] i h = h
  all-scoped s (k ∷ ks) (con ∷ cons) i h =
      let h1 = then-gives h in
      goes_on h1.0 (refuted-scoped s k ks con cons i h1.1) (all-scoped s ks cons (later s k ks con cons i) h1.2)

  -- a variable that is split
  splitting-in : (c : Context Term) (k : ℕ) (f : FamilyAt) (a l : Term) → k < length c → ContextInScope g any_meta c → ShowsFamily g fuel depth c k (Gives f)
      → SplittingInScope g any_meta (split_at c k f a l)
  splitting-in c k f a l m h v =
      let h1 = then-gives v in
      let h2 = then-gives h1.2 in
      let t = entry-in g c k h1.0 h (entry-is (slice_get c k) h1.0 h1.1) in
      let p = family-in g (length c - (k + 1)) h2.0.0 h2.0.1 f h2.2 (spine-in g sig (length c - (k + 1)) h1.0.ty h2.1.0 h2.0 fuel h2.1.1 h2.1.2 t) in
      record { context = h; var = m; params = p.0; indices = p.1 }

  shows-family : (c : Context Term) (k : ℕ) (f : FamilyAt) → ShowsSplit g fuel depth c k (Gives f) → ShowsFamily g fuel depth c k (Gives f)
  shows-family c k f h =
      let h1 = then-gives h in
      let h2 = then-gives h1.2 in
      transport (λ f. ShowsFamily g fuel depth c k (Gives f)) (sym (one_gives h2.2)) h1.1

  -- a split on a variable, with all its constructors
  split-in : (c : Context Term) (k : ℕ) (f : FamilyAt) (a l : Term) → k < length c → ContextInScope g any_meta c → In g (length c) a → In g (length c) l
      → ShowsFamily g fuel depth c k (Gives f)
      → SplitIn (split_at c k f a l) (cons_of g f.fam) f.decl.cons
  split-in c k f a l m h x y v =
      let i = var-is g fuel depth sound c k f v in
      record {
        split = splitting-in c k f a l m h v;
        ty = x;
        left = y;
        at = cons-at g f.fam f.decl (length f.params) i.is_decl i.as_many;
        decls = decls-in g sig f.fam f.decl (length f.params) i.is_decl i.as_many;
      }

  mutual
    pub tree-scoped : (c : Context Term) (n : ℕ) (T : Tree Term) (a l : Term) → length c ≡ n → ContextInScope g any_meta c → In g (length c) a
        → In g (length c) l → TreeInScope g any_meta n T
        → TreeOf g fuel depth (UnifiesAs g fuel depth) c T a l (Gives tt) → TreeOf g fuel depth (UnifiesTo g fuel depth) c T a l (Gives tt)
    tree-scoped c n (Leaf t i) a l m x y z s h = h
    tree-scoped c n (Intro T) a l m x y z s h =
        let h1 = then-gives h in
        let h2 = then-gives h1.2 in
        let p = h2.0 in
        let t = transport (In g (length c)) (pi-is h1.0 p h2.1) (form-in g sig (length c) a h1.1.0 h1.0 fuel h1.1.1 h1.1.2 y) in
        let e : length c + 1 ≡ suc (length c) = omega arith in
        goes_on h1.0 h1.1 (goes_on p h2.1 (tree-scoped (entry p.flag p.name p.dom ∷ c) (n + 1) T p.cod (App p.flag (shift l 0 1) (Var 0)) (omega (arith, m))
        (t.0, x) (moved (length c + 1) (suc (length c)) p.cod e t.1)
        (moved (length c + 1) (suc (length c)) (shift l 0 1) e (shift-in_scope g any_meta (length c) 0 1 l z), omega arith) s h2.2))
    tree-scoped c n (Cosplit bs) a l m x y z s h =
        let h1 = then-gives h in
        let h2 = then-gives h1.2 in
        let h3 = then-gives h2.2 in
        let f = h2.0 in
        let q = record-in g (length c) h1.0.0 h1.0.1 f h2.1 (spine-in g sig (length c) a h1.1.0 h1.0 fuel h1.1.1 h1.1.2 y) in
        let i = record-is g h1.0.0 h1.0.1 f h2.1 in
        goes_on h1.0 h1.1 (goes_on f h2.1 (goes_on tt h3.1
        (fields-scoped c n l (reverse f.params) (length f.decl.params) (fields_of g f.fam) f.decl.fields bs m x z
        (each-reverse g any_meta (length c) f.params q)
        (fields-in_scope g any_meta sig f.fam f.decl i.is_decl) (fields-at g f.fam) s h3.2)))
    tree-scoped c n (Split k bs) a l m x y z s h =
        let h1 = then-gives h in
        let f = h1.0 in
        let i = split-in c k f a l (let b = s.0 in omega (arith, b, m)) x y z (shows-family c k f h1.1) in
        goes_on f h1.1 (branches-scoped n (split_at c k f a l) (cons_of g f.fam) f.decl.cons bs i s.1 h1.2)
    tree-scoped c n (RecordSplit k d T) a l m x y z s h =
        let h1 = then-gives h in
        let h2 = then-gives h1.2 in
        let h3 = then-gives h2.2 in
        let h4 = then-gives h3.2 in
        let f = h1.0 in
        let q = h4.0 in
        let w = split_at c k f a l in
        let v = var-is g fuel depth sound c k f h1.1 in
        let b : k < length c = let b = s.0 in omega (arith, b, m) in
        let i = splitting-in c k f a l b x h1.1 in
        let decl : fam_decl g d ≡ Some f.decl = transport (λ d. fam_decl g d ≡ Some f.decl) (eqb-true f.fam d (demanded _ _ _ h2.1)) v.is_decl in
        let at : con_params g q ≡ Some (length f.params) = all_got (λ k. con_params g k ≡ Some (length f.params)) (cons_of g d) 0 q
        (cons-at g d f.decl (length f.params) decl v.as_many) (first-is (cons_of g d) q h4.1) in
        let count : field_count g d ≡ length f.decl.fields = ap (λ o. option_map_or (λ d. length d.fields) o 0) decl in
        let long : length (con_context w q f.decl.fields) ≡ n + field_count g d - 1 =
        length-con_context w q f.decl.fields b ∙ (ap (λ j. j + length f.decl.fields - 1) m ∙ ap (λ j. n + j - 1) (sym count)) in
        let fs = transport (λ n. TelescopeInScope g any_meta n f.decl.fields) (sym v.as_many) (fields-in_scope g any_meta sig d f.decl decl) in
        goes_on f h1.1 (goes_on tt h2.1 (goes_on tt h3.1
        (goes_on q h4.1 (tree-scoped (con_context w q f.decl.fields) (n + field_count g d - 1) T (with_con w q f.decl.fields a)
        (with_con w q f.decl.fields l) long
        (context-in_scope g any_meta w q at i f.decl.fields fs) (with-in_scope g any_meta w q at i f.decl.fields a y)
        (with-in_scope g any_meta w q at i f.decl.fields l z) s.2 h4.2))))
    tree-scoped c n (Absurd k) a l m x y z s h =
        let h1 = then-gives h in
        let f = h1.0 in
        let i = split-in c k f a l (omega (arith, s, m)) x y z (shows-family c k f h1.1) in
        goes_on f h1.1 (all-scoped (split_at c k f a l) (cons_of g f.fam) f.decl.cons i h1.2)

    fields-scoped : (c : Context Term) (n : ℕ) (l : Term) (e : List Term) (i : ℕ) (fs : List ℕ) (xs : Telescope Term) (bs : CoBranches Term) → length c ≡ n
        → ContextInScope g any_meta c → In g (length c) l → AllByRecursion (In g (length c)) e
        → TelescopeInScope g any_meta i xs → AllByRecursion (λ f. f < sum (field_counts g)) fs → CoBranchesInScope g any_meta n bs
        → FieldsOf g fuel depth (UnifiesAs g fuel depth) c l e fs xs bs (Gives tt) → FieldsOf g fuel depth (UnifiesTo g fuel depth) c l e fs xs bs (Gives tt)
    fields-scoped c n l e i [] [] NoField m x z q w o s h = h
    fields-scoped c n l e i [] (y ∷ xs) NoField m x z q w o s h = h
    fields-scoped c n l e i (f ∷ fs) [] NoField m x z q w o s h = h
    fields-scoped c n l e i (f ∷ fs) (y ∷ xs) NoField m x z q w o s h = h
    fields-scoped c n l e i [] [] (OnField k T bs) m x z q w o s h = h
    fields-scoped c n l e i [] (y ∷ xs) (OnField k T bs) m x z q w o s h = h
    fields-scoped c n l e i (f ∷ fs) [] (OnField k T bs) m x z q w o s h = h
    fields-scoped c n l e i (f ∷ fs) (y ∷ xs) (OnField k T bs) m x z q w o s h =
        let h1 = then-gives h in
        let h2 = then-gives h1.2 in
        let p : In g (length c) (Proj f l) = (o.0, z) in
        goes_on tt h1.1 (goes_on tt (tree-scoped c n T (under e y.ty) (Proj f l) m x (under-in_scope g any_meta (length c) i e y.ty q w.0) p s.1 h2.1)
        (fields-scoped c n l (Proj f l ∷ e) (i + 1) fs xs bs m x z (p, q) w.1 o.1 s.2 h2.2))

    branches-scoped : (n : ℕ) (s : Splitting) (ks : List ℕ) (cons : List (ConDecl Term)) (bs : ConBranches Term) → SplitIn s ks cons
        → ConBranchesInScope g any_meta n bs
        → BranchesOf g fuel depth (UnifiesAs g fuel depth) s ks cons bs (Gives tt) → BranchesOf g fuel depth (UnifiesTo g fuel depth) s ks cons bs (Gives tt)
    branches-scoped n s [] [] NoCon i w h = h
    branches-scoped n s [] (con ∷ cons) NoCon i w h = h
    branches-scoped n s (k ∷ ks) [] NoCon i w h = h
    branches-scoped n s (k ∷ ks) (con ∷ cons) NoCon i w h = h
    branches-scoped n s [] [] (Refuted j bs) i w h = h
    branches-scoped n s [] (con ∷ cons) (Refuted j bs) i w h = h
    branches-scoped n s (k ∷ ks) [] (Refuted j bs) i w h = h
    branches-scoped n s (k ∷ ks) (con ∷ cons) (Refuted j bs) i w h =
        let h1 = then-gives h in
        let h2 = then-gives h1.2 in
        goes_on tt h1.1 (goes_on tt (refuted-scoped s k ks con cons i h2.1) (branches-scoped n s ks cons bs (later s k ks con cons i) w.1 h2.2))
    branches-scoped n s [] [] (Goes j b T bs) i w h = h
    branches-scoped n s [] (con ∷ cons) (Goes j b T bs) i w h = h
    branches-scoped n s (k ∷ ks) [] (Goes j b T bs) i w h = h
    branches-scoped n s (k ∷ ks) (con ∷ cons) (Goes j b T bs) i w h =
        let h1 = then-gives h in
        let h2 = then-gives h1.2 in
        let h3 = then-gives h2.2 in
        let m = w.1 in
        let long : length (onto b.context []) ≡ length b.context = length-onto b.context [] ∙ omega arith in
        let c = onto-in g 0 b.context [] refl m.context tt in
        let r = transport (λ n. AllByRecursion (In g n) b.values) (sym long) m.values in
        goes_on tt h1.1 (goes_on tt (branch-scoped s k ks con cons i b h2.1)
        (goes_on tt (tree-scoped (onto b.context []) (length b.context) T (under b.values (with_con s k con.args s.ty))
        (under b.values (with_con s k con.args s.left)) long c
        (under-in_scope g any_meta (length (onto b.context [])) _ b.values (with_con s k con.args s.ty) r (with s k ks con cons i s.ty i.ty))
        (under-in_scope g any_meta (length (onto b.context [])) _ b.values (with_con s k con.args s.left) r (with s k ks con cons i s.left i.left)) w.2 h3.1)
        (branches-scoped n s ks cons bs (later s k ks con cons i) w.3 h3.2)))
