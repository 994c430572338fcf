-- A family, a tree and a declaration in scope have an outcome.
use Rattle.std.specs.Prelude.{◌≡◌, ℕ, ◌+◌, ◌-◌, ◌<◌, ◌≤◌, ◌⊎◌, Bool, cond, eqb, List, [], ◌∷◌, ◌++◌, length, reverse, slice_get, Some, refl, zero, suc}
use Rattle.std.specs.Option.{option_map_or}
use Rattle.std.specs.List.{AllByRecursion}
use Rattle.std.proofs.Common.{ap, sym, ◌∙◌, arith, inl, inr, subst as transport}
use Rattle.std.proofs.lemmas.List.{length-append}
use Rattle.std.proofs.lemmas.Bool.{eqb-true}
use Rattle.core_rules.specs.Term.{Term, Var, App, Def, Fam, Proj}
use Rattle.core_rules.specs.Substitution.{shift, under}
use Rattle.core_rules.specs.Signature.{Telescope, Context, onto, Branch, Tree, Leaf, Intro, Cosplit, Split, RecordSplit, Absurd, CoBranches, NoField, OnField, ConBranches, NoCon, Refuted, Goes, ConDecl, FamDecl, Decl, Postulate, Family, Open, Function, Signature, defs, fams, fam_decl, without_cons, cons_of, fields_of}
use Rattle.core_rules.specs.Elimination.{Elim, Arg, Field, elims, args, vars_from, con_end}
use Rattle.core_rules.specs.Typing.{entry}
use Rattle.core_rules.specs.Unification.{Equation}
use Rattle.core_rules.specs.TypedTree.{Splitting, con_context, with_con, index_equations}
use Rattle.core_rules.specs.InScope.{InScope, TelescopeInScope, TreeInScope, CoBranchesInScope, ConBranchesInScope, BranchInScope, ConInScope, FamilyInScope, DeclInScope, field_count, any_meta}
use Rattle.core_rules.proofs.Signature.Known.{fams-append}
use Rattle.core_rules.proofs.Typing.Scoped.{length-onto}
use Rattle.core_rules.proofs.Trees.Scoped.{length-con_context}
use Rattle.kernel_rules.specs.Outcome.{Outcome, Gives, Refuses}
use Rattle.kernel_rules.specs.TermReading.{spine_shown, form_shown}
use Rattle.kernel_rules.specs.Refusals.{DeclRefusal, ConShape, TooBig, BadTree, Demands}
use Rattle.kernel_rules.specs.FamilyReading.{none_above, LevelsOf, ConOf, ConsOf, FamilyOf}
use Rattle.core_rules.specs.UnifierAnswers.{Unified, Unifier}
use Rattle.kernel_rules.specs.TreeReading.{FamilyAt, pi_shown, family_shown, record_shown, entry_shown, can_split, first_con, split_at, branch_by, refuted_by, IsSameBranch, IsItsBranch, same, other, ShowsFamily, ShowsSplit, ValuesOf, Unifies, AllRefutedOf, BranchOf, TreeOf, FieldsOf, BranchesOf}
use Rattle.kernel_rules.specs.DeclReading.{DeclOf}
use Rattle.kernel_rules.proofs.Outcome.{then-gives}
use Rattle.kernel_rules.proofs.Families.{demanded}
use Rattle.kernel_rules.proofs.Shown.{family-is}
use Rattle.kernel_rules.proofs.SameBranch.{branch_or}
use Rattle.kernel_rules.proofs.TermOutcome.{HasOutcome, then-outcome, seen-outcome, is_type-outcome, checked-outcome}

abbrev pub AnswersAll : Unifier → Type 0
AnswersAll U = (c : Context Term) (es : List Equation) → (v : Unified) × U c es v

demand-outcome : (w : Bool) (e : DeclRefusal) → HasOutcome (Demands w e)
demand-outcome w e = (cond w (Gives tt) (Refuses e), refl)

-- ---- the end of a constructor is in scope

module _ (g : Signature Term) where
  abbrev ElimIn : ℕ → Elim → Type 0
  ElimIn n (Arg b u) = InScope g any_meta n u
  ElimIn n (Field f) = ⊥

  elims-in : (n : ℕ) (t : Term) (es : List Elim) → InScope g any_meta n t → AllByRecursion (ElimIn n) es → InScope g any_meta n (elims t es)
  elims-in n t [] h k = h
  elims-in n t (Arg b u ∷ es) h k = elims-in n (App b t u) es (h, k.0) k.1
  elims-in n t (Field f ∷ es) h k = absurd k.0

  args-in : (n : ℕ) (es : Telescope Term) (ts : List Term) → AllByRecursion (InScope g any_meta n) ts → AllByRecursion (ElimIn n) (args es ts)
  args-in n [] ts h = tt
  args-in n (e ∷ es) [] h = tt
  args-in n (e ∷ es) (t ∷ ts) h = (h.0, args-in n es ts h.1)

  append-in : (n : ℕ) (es ds : List Elim) → AllByRecursion (ElimIn n) es → AllByRecursion (ElimIn n) ds → AllByRecursion (ElimIn n) (es ++ ds)
  append-in n [] ds h k = k
  append-in n (e ∷ es) ds h k = (h.0, append-in n es ds h.1 k)

  vars-in : (k m n : ℕ) → k + m ≤ n → AllByRecursion (InScope g any_meta n) (vars_from k m)
  vars-in k zero n h = tt
  vars-in k (suc m) n h = (omega (arith, h), vars-in k m n (omega (arith, h)))

  pub con_end-in : (n : ℕ) (d : FamDecl Term) (k : ConDecl Term) → n < length (fams g) → ConInScope g any_meta (length d.params) k → InScope g any_meta (length d.params + length k.args) (con_end n d k)
  con_end-in n d k b s =
      let m : ℕ = length d.params + length k.args in
      elims-in m (Fam n) (args d.params (vars_from (length k.args) (length d.params)) ++ args d.indices k.indices) b
      (append-in m (args d.params (vars_from (length k.args) (length d.params))) (args d.indices k.indices)
      (args-in m d.params (vars_from (length k.args) (length d.params)) (vars-in (length k.args) (length d.params) m (omega arith)))
      (args-in m d.indices k.indices s.indices))

module _ (g : Signature Term) (fuel depth : ℕ) where
  pub levels-outcome : (c : Context Term) (n : ℕ) (es : Telescope Term) → length c ≡ n → TelescopeInScope g any_meta n es → HasOutcome (LevelsOf g fuel depth c es)
  levels-outcome c n [] m h = (Gives [], refl)
  levels-outcome c n (e ∷ es) m h = then-outcome (is_type-outcome g fuel depth c n e.ty m h.0) (λ i _. then-outcome (levels-outcome (e ∷ c) (n + 1) es (omega (arith, m)) h.1) (λ ns _. (Gives (i ∷ ns), refl)))

  con-outcome : (n : ℕ) (d : FamDecl Term) (k : ConDecl Term) → n < length (fams g) → ConInScope g any_meta (length d.params) k → HasOutcome (ConOf g fuel depth n d k)
  con-outcome n d k b s =
      let p : length (onto d.params []) ≡ length d.params = length-onto d.params [] ∙ omega arith in
      let q : length (onto k.args (onto d.params [])) ≡ length d.params + length k.args = length-onto k.args (onto d.params []) ∙ omega (arith, p) in
      then-outcome (levels-outcome (onto d.params []) (length d.params) k.args p s.args)
      (λ ns _. then-outcome (demand-outcome (eqb (length k.indices) (length d.indices)) ConShape)
      (λ o _. then-outcome (is_type-outcome g fuel depth (onto k.args (onto d.params [])) (length d.params + length k.args) (con_end n d k) q (con_end-in g n d k b s))
      (λ i _. demand-outcome (none_above d.level ns) TooBig)))

  cons-outcome : (n : ℕ) (d : FamDecl Term) (ks : List (ConDecl Term)) → n < length (fams g) → AllByRecursion (ConInScope g any_meta (length d.params)) ks → HasOutcome (ConsOf g fuel depth n d ks)
  cons-outcome n d [] b s = (Gives tt, refl)
  cons-outcome n d (k ∷ ks) b s = then-outcome (con-outcome n d k b s.0) (λ o _. cons-outcome n d ks b s.1)

  var-outcome : (c : Context Term) (k : ℕ) → HasOutcome (ShowsFamily g fuel depth c k)
  var-outcome c k = then-outcome (entry_shown (slice_get c k), refl) (λ e _. then-outcome (seen-outcome g fuel depth spine_shown e.ty) (λ p _. (family_shown g p.0 p.1, refl)))

  split-outcome : (c : Context Term) (k : ℕ) → HasOutcome (ShowsSplit g fuel depth c k)
  split-outcome c k = then-outcome (var-outcome c k) (λ f _. then-outcome (demand-outcome (can_split f.decl) BadTree) (λ o _. (Gives f, refl)))

  shown-decl : (c : Context Term) (k : ℕ) (f : FamilyAt) → ShowsFamily g fuel depth c k (Gives f) → fam_decl g f.fam ≡ Some f.decl
  shown-decl c k f h =
      let h1 = then-gives h in
      let h2 = then-gives h1.2 in
      (family-is g h2.0.0 h2.0.1 f h2.2).is_decl

  values-outcome : (c' : Context Term) (n : ℕ) (ts : List Term) (es : Context Term) → length c' ≡ n → AllByRecursion (λ t. InScope g any_meta n t) ts → HasOutcome (ValuesOf g fuel depth c' ts es)
  values-outcome c' n [] [] m h = (Gives tt, refl)
  values-outcome c' n [] (e ∷ es) m h = (Refuses BadTree, refl)
  values-outcome c' n (t ∷ ts) [] m h = (Refuses BadTree, refl)
  values-outcome c' n (t ∷ ts) (e ∷ es) m h = then-outcome (values-outcome c' n ts es m h.1) (λ o _. then-outcome (checked-outcome g fuel depth c' n t (under ts e.ty) m h.0) (λ o _. (Gives tt, refl)))

  module _ (U : Unifier) (answer : AnswersAll U) where
    unifies-outcome : {A : Type 0} (f : Unified → Outcome DeclRefusal A) (c : Context Term) (es : List Equation) → HasOutcome (Unifies g fuel depth U f c es)
    unifies-outcome f c es = let v = answer c es in (f v.0, (v.0, v.1, refl))

    refuted-outcome : (s : Splitting) (ks : List ℕ) (cons : List (ConDecl Term)) → HasOutcome (AllRefutedOf g fuel depth U s ks cons)
    refuted-outcome s [] [] = (Gives tt, refl)
    refuted-outcome s [] (con ∷ cons) = (Refuses BadTree, refl)
    refuted-outcome s (k ∷ ks) [] = (Refuses BadTree, refl)
    refuted-outcome s (k ∷ ks) (con ∷ cons) = then-outcome (unifies-outcome refuted_by (con_context s k con.args) (index_equations s con)) (λ o _. refuted-outcome s ks cons)

    its-outcome : (b b' : Branch Term) → IsSameBranch b b' ⊎ (IsSameBranch b b' → ⊥) → HasOutcome (IsItsBranch b b')
    its-outcome b b' (inl h) = (Gives tt, same h refl)
    its-outcome b b' (inr h) = (Refuses BadTree, other h refl)

    branch-outcome : (m : ℕ) (s : Splitting) (k : ℕ) (con : ConDecl Term) (b : Branch Term) → BranchInScope g any_meta m b → HasOutcome (BranchOf g fuel depth U s k con b)
    branch-outcome m s k con b h =
        let n : length (onto b.context []) ≡ length b.context = length-onto b.context [] ∙ omega arith in
        then-outcome (unifies-outcome branch_by (con_context s k con.args) (index_equations s con)) (λ b' _. then-outcome (its-outcome b b' (branch_or b b'))
        (λ o _. then-outcome (levels-outcome [] 0 b.context refl h.context) (λ ns _. values-outcome (onto b.context []) (length b.context) b.values (con_context s k con.args) n h.values)))

    mutual
      pub tree-outcome : (c : Context Term) (n : ℕ) (T : Tree Term) (a l : Term) → length c ≡ n → TreeInScope g any_meta n T → HasOutcome (TreeOf g fuel depth U c T a l)
      tree-outcome c n (Leaf t i) a l m h = then-outcome (checked-outcome g fuel depth c n t a m h) (λ o _. (Gives tt, refl))
      tree-outcome c n (Intro T) a l m h =
          then-outcome (seen-outcome g fuel depth form_shown a) (λ t _. then-outcome (pi_shown t, refl)
          (λ p _. tree-outcome (entry p.flag p.name p.dom ∷ c) (n + 1) T p.cod (App p.flag (shift l 0 1) (Var 0)) (omega (arith, m)) h))
      tree-outcome c n (Cosplit bs) a l m h =
          then-outcome (seen-outcome g fuel depth spine_shown a) (λ p _. then-outcome (record_shown g p.0 p.1, refl) (λ f _. then-outcome (demand-outcome f.decl.is_record BadTree)
          (λ o _. fields-outcome c n l (reverse f.params) (fields_of g f.fam) f.decl.fields bs m h)))
      tree-outcome c n (Split k bs) a l m h = then-outcome (split-outcome c k) (λ f _. branches-outcome n (split_at c k f a l) (cons_of g f.fam) f.decl.cons bs h.1)
      tree-outcome c n (RecordSplit k d T) a l m h =
          then-outcome (var-outcome c k) (λ f shows. then-outcome (demand-outcome (eqb f.fam d) BadTree) (λ o is. then-outcome (demand-outcome f.decl.eta BadTree) (λ o _. then-outcome (first_con (cons_of g d), refl)
          (λ i _.
          let s : Splitting = split_at c k f a l in
          let decl : fam_decl g d ≡ Some f.decl = transport (λ d. fam_decl g d ≡ Some f.decl) (eqb-true f.fam d (demanded _ _ _ is)) (shown-decl c k f shows) in
          let count : field_count g d ≡ length f.decl.fields = ap (λ o. option_map_or (λ d. length d.fields) o 0) decl in
          let below : k < length c = let b = h.0 in omega (arith, b, m) in
          let long : length (con_context s i f.decl.fields) ≡ n + field_count g d - 1 =
          length-con_context s i f.decl.fields below ∙ (ap (λ j. j + length f.decl.fields - 1) m ∙ ap (λ j. n + j - 1) (sym count)) in
          tree-outcome (con_context s i f.decl.fields) (n + field_count g d - 1) T (with_con s i f.decl.fields a) (with_con s i f.decl.fields l) long h.2))))
      tree-outcome c n (Absurd k) a l m h = then-outcome (split-outcome c k) (λ f _. refuted-outcome (split_at c k f a l) (cons_of g f.fam) f.decl.cons)

      fields-outcome : (c : Context Term) (n : ℕ) (l : Term) (e : List Term) (fs : List ℕ) (xs : Telescope Term) (bs : CoBranches Term) → length c ≡ n → CoBranchesInScope g any_meta n bs → HasOutcome (FieldsOf g fuel depth U c l e fs xs bs)
      fields-outcome c n l e [] [] NoField m h = (Gives tt, refl)
      fields-outcome c n l e [] (z ∷ xs) NoField m h = (Refuses BadTree, refl)
      fields-outcome c n l e (f ∷ fs) [] NoField m h = (Refuses BadTree, refl)
      fields-outcome c n l e (f ∷ fs) (z ∷ xs) NoField m h = (Refuses BadTree, refl)
      fields-outcome c n l e [] [] (OnField i T bs) m h = (Refuses BadTree, refl)
      fields-outcome c n l e [] (z ∷ xs) (OnField i T bs) m h = (Refuses BadTree, refl)
      fields-outcome c n l e (f ∷ fs) [] (OnField i T bs) m h = (Refuses BadTree, refl)
      fields-outcome c n l e (f ∷ fs) (z ∷ xs) (OnField i T bs) m h =
          then-outcome (demand-outcome (eqb i f) BadTree) (λ o _. then-outcome (tree-outcome c n T (under e z.ty) (Proj f l) m h.1) (λ o _. fields-outcome c n l (Proj f l ∷ e) fs xs bs m h.2))

      branches-outcome : (n : ℕ) (s : Splitting) (ks : List ℕ) (cons : List (ConDecl Term)) (bs : ConBranches Term) → ConBranchesInScope g any_meta n bs → HasOutcome (BranchesOf g fuel depth U s ks cons bs)
      branches-outcome n s [] [] NoCon h = (Gives tt, refl)
      branches-outcome n s [] (con ∷ cons) NoCon h = (Refuses BadTree, refl)
      branches-outcome n s (k ∷ ks) [] NoCon h = (Refuses BadTree, refl)
      branches-outcome n s (k ∷ ks) (con ∷ cons) NoCon h = (Refuses BadTree, refl)
      branches-outcome n s [] [] (Refuted i bs) h = (Refuses BadTree, refl)
      branches-outcome n s [] (con ∷ cons) (Refuted i bs) h = (Refuses BadTree, refl)
      branches-outcome n s (k ∷ ks) [] (Refuted i bs) h = (Refuses BadTree, refl)
      branches-outcome n s (k ∷ ks) (con ∷ cons) (Refuted i bs) h =
          then-outcome (demand-outcome (eqb i k) BadTree) (λ o _. then-outcome (unifies-outcome refuted_by (con_context s k con.args) (index_equations s con)) (λ o _. branches-outcome n s ks cons bs h.1))
      branches-outcome n s [] [] (Goes i b T bs) h = (Refuses BadTree, refl)
      branches-outcome n s [] (con ∷ cons) (Goes i b T bs) h = (Refuses BadTree, refl)
      branches-outcome n s (k ∷ ks) [] (Goes i b T bs) h = (Refuses BadTree, refl)
      branches-outcome n s (k ∷ ks) (con ∷ cons) (Goes i b T bs) h =
          let long : length (onto b.context []) ≡ length b.context = length-onto b.context [] ∙ omega arith in
          then-outcome (demand-outcome (eqb i k) BadTree) (λ o _. then-outcome (branch-outcome _ s k con b h.1)
          (λ o _. then-outcome (tree-outcome (onto b.context []) (length b.context) T (under b.values (with_con s k con.args s.ty)) (under b.values (with_con s k con.args s.left)) long h.2)
          (λ o _. branches-outcome n s ks cons bs h.3)))

pub family-outcome : (g : Signature Term) (fuel depth : ℕ) (d : FamDecl Term) → FamilyInScope g any_meta d → HasOutcome (FamilyOf g fuel depth d)
family-outcome g fuel depth d s =
    let known : Signature Term = g ++ Family (without_cons d) ∷ [] in
    let p : length (onto d.params []) ≡ length d.params = length-onto d.params [] ∙ omega arith in
    let n : length (fams known) ≡ length (fams g) + 1 = ap length (fams-append g (Family (without_cons d) ∷ [])) ∙ length-append (fams g) (without_cons d ∷ []) in
    then-outcome (levels-outcome g fuel depth [] 0 d.params refl s.params) (λ ns _. then-outcome (levels-outcome g fuel depth (onto d.params []) (length d.params) d.indices p s.indices)
    (λ ms _. cons-outcome known fuel depth (length (fams g)) d d.cons (omega (arith, n)) s.cons))

pub decl-outcome : (U : Signature Term → Unifier) → ((h : Signature Term) → AnswersAll (U h)) → (g : Signature Term) (fuel depth : ℕ) (d : Decl Term) → DeclInScope g any_meta d → HasOutcome (DeclOf U g fuel depth d)
decl-outcome U answer g fuel depth (Postulate x a) s = then-outcome (is_type-outcome g fuel depth [] 0 a refl s) (λ n _. (Gives tt, refl))
decl-outcome U answer g fuel depth (Family d) s = family-outcome g fuel depth d s
decl-outcome U answer g fuel depth (Open x a) s = (Refuses BadTree, refl)
decl-outcome U answer g fuel depth (Function x a qs T) s =
    then-outcome (is_type-outcome g fuel depth [] 0 a refl s.0)
    (λ n _. tree-outcome (g ++ Open x a ∷ []) fuel depth (U (g ++ Open x a ∷ [])) (answer (g ++ Open x a ∷ [])) [] 0 T a (Def (length (defs g))) refl s.1)
