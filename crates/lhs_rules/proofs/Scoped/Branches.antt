-- The branches that the unifier answers are in scope, where the context and the equations are.
use Rattle.std.proofs.Common.{◌≡◌, ◌+◌, ◌-◌, ◌<◌, ◌≤◌, ◌∙◌, refl, sym, subst, arith, append-nil}
use Rattle.std.proofs.lemmas.Grind.{common_steps}
use Rattle.std.proofs.lemmas.List.{length-map}
use Rattle.std.specs.Prelude.{ℕ, Bool, true, false, eqb, ltb, cond, List, [], ◌∷◌, ◌++◌, length, map, slice_get, Option, Some, None, zero, suc}
use Rattle.std.specs.List.{AllByRecursion}
use mathlib.Core.List.{reverse_aux}
use Rattle.core_rules.specs.Term.{Term, Terms, Var, Sort, Pi, Lam, App, Def, Fam, Con, Proj, Meta, End, And, HasNoMeta}
use Rattle.core_rules.specs.Substitution.{value_at, replace}
use Rattle.core_rules.specs.Signature.{Entry, Context, onto, Branch, Signature, Decl}
use Rattle.core_rules.specs.Mapped.{entry_map, telescope_map, AllDecl}
use Rattle.core_rules.specs.InScope.{AllInScope, SignatureInScope, SolutionsInScope, VarsBelow, AllVarsBelow}
use Rattle.core_rules.specs.ScopeLaws.{AnswerInScope, ContextInScope, EquationInScope, SolutionInScope, StateInScope}
use Rattle.core_rules.specs.Heads.{Solutions, Answer, Form, Blocked}
use Rattle.core_rules.specs.Bounded as B
use Rattle.core_rules.specs.Bounded.{Verdict, Yes, No, WaitsFor}
use Rattle.core_rules.specs.BoundedLaws.{no_solutions, shown}
use Rattle.core_rules.specs.Unification as U
use Rattle.core_rules.specs.Unification.{Equation, eq, Solution, State, St, begin}
use Rattle.core_rules.specs.UnifierAnswers.{UnifiedBy}
use Rattle.core_rules.proofs.Heads.Untouched.{signature_untouched}
use Rattle.core_rules.proofs.Scope.Changed.{Each, each_at, over-in_scope, replace-in_scope}
use Rattle.core_rules.proofs.Scope.Declared.{elims-in_scope}
use Rattle.core_rules.proofs.Scope.HeadForms.{heads-in_scope}
use Rattle.core_rules.proofs.Scope.Unified.{begin-in_scope, step-in_scope}
use Rattle.core_rules.proofs.Typing.Scoped.{length-onto}
use Rattle.unify_rules.specs.Unifier.{Outcome, Solved, Conflict, Cycle, Stuck, OutOfFuel, OutOfDepth, Rule, left_one, right_one, same_con, Applies, solves, injects, conflicts, cycles, sticks, Ruled, Next, Answers, Goes, after, Turn, done, out_left, out_right, turn, Unify, answers, goes}
use Rattle.unify_rules.specs.UnifierLaws.{EquationBelow, ContextBelow}
use Rattle.unify_rules.specs.Joined.{value_of, place_in, rename_var, rename, value_or_place, values_from, with_type, entries_of, keep_of, branch_of}
use Rattle.unify_rules.specs.Answered.{unified_of}
use Rattle.unify_rules.proofs.Joining.{solved_joins}
use Rattle.unify_rules.proofs.Types.{branch_types}
use Rattle.lhs_rules.specs.Patterns.{AnswersWith}
use Rattle.lhs_rules.proofs.Scoped.Lefts.{In}
use Rattle.lhs_rules.proofs.Scoped.Puts.{BranchIn, BranchesIn}

module _ (g : Signature Term) (M : ℕ → ℕ → Type 0) where
  -- ---- what is in scope is what has declared ids, and variables below a number

  mutual
    below : (n : ℕ) (t : Term) → In g M n t → VarsBelow n t
    below n (Var i) h = h
    below n (Sort l) h = tt
    below n (Pi b x a t) h = (below n a h.0, below (n + 1) t h.1)
    below n (Lam b x a t) h = (below n a h.0, below (n + 1) t h.1)
    below n (App b t u) h = (below n t h.0, below n u h.1)
    below n (Def f) h = tt
    below n (Fam d) h = tt
    below n (Con k ts) h = below_all n ts h.1
    below n (Proj f t) h = below n t h.1
    below n (Meta m ts) h = below_all n ts h.1

    below_all : (n : ℕ) (ts : Terms) → AllInScope g M n ts → AllVarsBelow n ts
    below_all n End h = tt
    below_all n (And t ts) h = (below n t h.0, below_all n ts h.1)

  mutual
    sharper : (m n : ℕ) (t : Term) → In g M m t → VarsBelow n t → In g M n t
    sharper m n (Var i) h k = k
    sharper m n (Sort l) h k = tt
    sharper m n (Pi b x a t) h k = (sharper m n a h.0 k.0, sharper (m + 1) (n + 1) t h.1 k.1)
    sharper m n (Lam b x a t) h k = (sharper m n a h.0 k.0, sharper (m + 1) (n + 1) t h.1 k.1)
    sharper m n (App b t u) h k = (sharper m n t h.0 k.0, sharper m n u h.1 k.1)
    sharper m n (Def f) h k = h
    sharper m n (Fam d) h k = h
    sharper m n (Con c ts) h k = (h.0, sharper_all m n ts h.1 k)
    sharper m n (Proj f t) h k = (h.0, sharper m n t h.1 k)
    sharper m n (Meta i ts) h k = (h.0, sharper_all m n ts h.1 k)

    sharper_all : (m n : ℕ) (ts : Terms) → AllInScope g M m ts → AllVarsBelow n ts → AllInScope g M n ts
    sharper_all m n End h k = tt
    sharper_all m n (And t ts) h k = (sharper m n t h.0 k.0, sharper_all m n ts h.1 k.1)

  each-sharper : (m n : ℕ) (ts : List Term) → Each g M m ts → AllByRecursion (λ t. VarsBelow n t) ts → Each g M n ts
  each-sharper m n [] h k = tt
  each-sharper m n (t ∷ ts) h k = (sharper m n t h.0 k.0, each-sharper m n ts h.1 k.1)

  context-below : (c : Context Term) → ContextInScope g M c → ContextBelow c
  context-below [] h = tt
  context-below (e ∷ c) h = (below (length c) e.ty h.0, context-below c h.1)

  equations-below : (n : ℕ) (es : List Equation) → AllByRecursion (EquationInScope g M n) es → AllByRecursion (EquationBelow n) es
  equations-below n [] h = tt
  equations-below n (e ∷ es) h = ((below n e.left h.0.0, below n e.right h.0.1), equations-below n es h.1)

  -- ---- the unifier keeps scope

  -- in a context of n entries
  module _ (n : ℕ) where
    abbrev SolutionsIn : List Solution → Type 0
    SolutionsIn ss = AllByRecursion (SolutionInScope g M n) ss

    abbrev OutcomeIn : Outcome → Type 0
    OutcomeIn (Solved ts ss) = Each g M n ts × SolutionsIn ss
    OutcomeIn (Conflict j k) = Unit {0}
    OutcomeIn (Cycle x) = Unit {0}
    OutcomeIn (Stuck t u) = Unit {0}
    OutcomeIn OutOfFuel = Unit {0}
    OutcomeIn OutOfDepth = Unit {0}

    abbrev NextIn : Next → Type 0
    NextIn (Answers o) = OutcomeIn o
    NextIn (Goes s) = StateInScope g M n s

    applied-in : (ts : List Term) (t u : Term) (es : List Equation) (ss : List Solution) (r : Rule) → StateInScope g M n (St ts (eq t u ∷ es) ss) → Applies ts t u r → NextIn (after r ts es ss)
    applied-in ts t u es ss r h (solves (left_one {x = x} {u = v} c k)) = step-in_scope g M n (St ts (eq (Var x) v ∷ es) ss) _ (U.solve_left [] es c) tt h
    applied-in ts t u es ss r h (solves (right_one {y = y} {t = v} c k)) = step-in_scope g M n (St ts (eq v (Var y) ∷ es) ss) _ (U.solve_right [] es c) tt h
    applied-in ts t u es ss r h (injects (same_con a b p)) = step-in_scope g M n (St ts (eq t u ∷ es) ss) _ (U.inject t u [] es a b p) tt h
    applied-in ts t u es ss r h (conflicts c) = tt
    applied-in ts t u es ss r h (cycles c) = tt
    applied-in ts t u es ss r h (sticks c) = tt

    ruled-in : (ts : List Term) (t u : Term) (es : List Equation) (ss : List Solution) (q : Verdict) (r : Rule) → StateInScope g M n (St ts (eq t u ∷ es) ss) → Ruled ts t u q r → NextIn (after r ts es ss)
    ruled-in ts t u es ss Yes r h d = subst (λ r. NextIn (after r ts es ss)) (sym d) (h.0, h.1.1, h.2)
    ruled-in ts t u es ss B.OutOfFuel r h d = subst (λ r. NextIn (after r ts es ss)) (sym d) tt
    ruled-in ts t u es ss B.OutOfDepth r h d = subst (λ r. NextIn (after r ts es ss)) (sym d) tt
    ruled-in ts t u es ss (No x y xs) r h d = applied-in ts t u es ss r h d
    ruled-in ts t u es ss (WaitsFor m) r h d = applied-in ts t u es ss r h d

    shown-in : (w : Answer) → AnswerInScope g M n w → In g M n (shown w)
    shown-in (Form t es) h = elims-in_scope g M n t es h.0 h.1
    shown-in (Blocked m t es) h = elims-in_scope g M n t es h.0 h.1

    module _ (sig : SignatureInScope g M) (fuel depth : ℕ) where
      none-solved : SolutionsInScope g M no_solutions
      none-solved = λ m k t x e. absurd cc

      turn-in : {s : State} {x : Next} → Turn g fuel depth s x → StateInScope g M n s → NextIn x
      turn-in done h = (h.0, h.2)
      turn-in (out_left a) h = tt
      turn-in (out_right a b) h = tt
      turn-in (turn {ts = ts} {es = es} {ss = ss} {v = v} {w = w} q r a b c d e) h =
          let x = shown-in v (heads-in_scope g M n no_solutions sig none-solved a.0 h.1.0.0 tt) in
          let y = shown-in w (heads-in_scope g M n no_solutions sig none-solved b.0 h.1.0.1 tt) in
          subst NextIn (sym e) (ruled-in ts (shown v) (shown w) es ss q r (h.0, ((x, y), h.1.1), h.2) d)

      unify-in : {s : State} {o : Outcome} {m : ℕ} → Unify g fuel depth s o m → StateInScope g M n s → OutcomeIn o
      unify-in (answers t) h = turn-in t h
      unify-in (goes t u) h = unify-in u (turn-in t h)

  -- ---- the branch, whose variables are below the number of its entries

  place_in-most : (ks : List ℕ) (i : ℕ) → place_in ks i ≤ length ks
  place_in-most [] i = omega arith
  place_in-most (k ∷ ks) i = by_test (eqb k i) (place_in-most ks i)
    where
      by_test : (b : Bool) → place_in ks i ≤ length ks → cond b 0 (suc (place_in ks i)) ≤ suc (length ks)
      by_test true l = omega arith
      by_test false l = omega (arith, l)

  renamed_var : (ks : List ℕ) (n d i : ℕ) → i < d + n → In g M (d + (length ks + 1)) (rename_var ks d i)
  renamed_var ks n d i h = by_test (ltb i d) refl
    where
      by_test : (b : Bool) → ltb i d ≡ b → In g M (d + (length ks + 1)) (cond b (Var i) (Var (place_in ks (i - d) + d)))
      by_test true e = let l : i < d = grind (arith, common_steps) in omega (arith, l)
      by_test false e = let l = place_in-most ks (i - d) in omega (arith, l)

  renamed-in : (ks : List ℕ) (n : ℕ) (t : Term) → In g M n t → In g M (length ks + 1) (rename ks t)
  renamed-in ks n t h =
      let p : n ≡ 0 + n = omega arith in
      let q : 0 + (length ks + 1) ≡ length ks + 1 = omega arith in
      subst (λ m. In g M m (rename ks t)) q (over-in_scope g M (rename_var ks) n (length ks + 1) (renamed_var ks n) 0 t (subst (λ m. In g M m t) p h))

  value_of-in : (n : ℕ) (ss : List Solution) (i : ℕ) (t : Term) → SolutionsIn n ss → value_of ss i ≡ Some t → In g M n t
  value_of-in n [] i t h e = absurd cc
  value_of-in n (x ∷ ss) i t h e = by_test (eqb x.var i) e (λ e. value_of-in n ss i t h.1 e)
    where
      by_test : (b : Bool) → cond b (Some x.value) (value_of ss i) ≡ Some t → (value_of ss i ≡ Some t → In g M n t) → In g M n t
      by_test true e k = let p : x.value ≡ t = cc in subst (In g M n) p h.0.1
      by_test false e k = k e

  values-in : (n : ℕ) (ss : List Solution) (ks : List ℕ) (i m : ℕ) → SolutionsIn n ss → Each g M (length ks + 1) (values_from ss ks i m)
  values-in n ss ks i zero h = tt
  values-in n ss ks i (suc m) h = (by_value (value_of ss i) refl, values-in n ss ks (suc i) m h)
    where
      by_value : (o : Option Term) → value_of ss i ≡ o → In g M (length ks + 1) (value_or_place ks i o)
      by_value None e = let l = place_in-most ks i in omega (arith, l)
      by_value (Some t) e = renamed-in ks n t (value_of-in n ss i t h e)

  typed-in : (n : ℕ) (o : Option (Entry Term)) (a : Term) → In g M n a → In g M n (with_type o a).ty
  typed-in n None a h = h
  typed-in n (Some e) a h = h

  entries-in : (n : ℕ) (c : Context Term) (ts : List Term) (ks : List ℕ) → Each g M n ts → ContextBelow (entries_of c ts ks) → ContextInScope g M (entries_of c ts ks)
  entries-in n c ts [] h k = tt
  entries-in n c ts (i ∷ ks) h k =
      let t = rename ks (value_at ts i) in
      (sharper (length ks + 1) (length (entries_of c ts ks)) (with_type (slice_get c i) t).ty (typed-in (length ks + 1) (slice_get c i) t (renamed-in ks n (value_at ts i) (each_at g M n ts i h))) k.0, entries-in n c ts ks h k.1)

  onto-reversed : (es ds c : Context Term) → onto (reverse_aux es ds) c ≡ onto ds (es ++ c)
  onto-reversed [] ds c = refl
  onto-reversed (e ∷ es) ds c = onto-reversed es (e ∷ ds) c

  module _ (sig : SignatureInScope g M) (fuel depth : ℕ) where
    solved-in : (n : ℕ) (c : Context Term) (es : List Equation) (ts : List Term) (ss : List Solution) → ContextInScope g M c → AllByRecursion (EquationInScope g M (length c)) es
        → Unify g fuel depth (begin c es) (Solved ts ss) n → BranchIn g M (branch_of c ts ss)
    solved-in n c es ts ss h k d =
        let b = branch_of c ts ss in
        let x = unify-in (length c) sig fuel depth d (begin-in_scope g M c es h k) in
        let es_below = equations-below (length c) es k in
        let j = solved_joins g fuel depth n c es ts ss es_below d in
        let inner : Context Term = entries_of c ts (keep_of (length c) ts ss) in
        let same : onto b.context [] ≡ inner = onto-reversed inner [] [] ∙ append-nil inner in
        let e = entries-in (length c) c ts (keep_of (length c) ts ss) x.0 (subst ContextBelow same (branch_types g fuel depth n c es ts ss (context-below c h) es_below d).0) in
        let m : length (onto b.context []) ≡ length b.context = length-onto b.context [] ∙ omega arith in
        record {
          context = subst (ContextInScope g M) (sym same) e;
          values = each-sharper (length (keep_of (length c) ts ss) + 1) (length b.context) b.values (values-in (length c) ss (keep_of (length c) ts ss) 0 (length c) x.1) (subst (λ n. AllByRecursion (λ t. VarsBelow n t) b.values) m j.scoped);
          as_many = j.as_many ∙ m;
        }

    outcome-in : (n : ℕ) (c : Context Term) (es : List Equation) (ss : List Solution) (b : Branch Term) (o : Outcome) → ContextInScope g M c → AllByRecursion (EquationInScope g M (length c)) es
        → Unify g fuel depth (begin c es) o n → UnifiedBy ss b ≡ unified_of c o → BranchIn g M b
    outcome-in n c es ss b (Solved ts ds) h k d e = let same : b ≡ branch_of c ts ds = cc in subst (BranchIn g M) (sym same) (solved-in n c es ts ds h k d)
    outcome-in n c es ss b (Conflict i j) h k d e = absurd cc
    outcome-in n c es ss b (Cycle x) h k d e = absurd cc
    outcome-in n c es ss b (Stuck t u) h k d e = absurd cc
    outcome-in n c es ss b OutOfFuel h k d e = absurd cc
    outcome-in n c es ss b OutOfDepth h k d e = absurd cc

    -- ---- with solutions of metavariables

    module _ (f : Solutions) (sol : SolutionsInScope g M f) where
      replaced-context : (c : Context Term) → ContextInScope g M c → ContextInScope g M (telescope_map (replace f) c)
      replaced-context [] h = tt
      replaced-context (e ∷ c) h =
          (subst (λ n. In g M n (replace f e.ty)) (sym (length-map c (entry_map (replace f)))) (replace-in_scope g M f sol (length c) e.ty h.0), replaced-context c h.1)

      replaced-equations : (n : ℕ) (es : List Equation) → AllByRecursion (EquationInScope g M n) es → AllByRecursion (EquationInScope g M n) (map (λ e. eq (replace f e.left) (replace f e.right)) es)
      replaced-equations n [] h = tt
      replaced-equations n (e ∷ es) h = ((replace-in_scope g M f sol n e.left h.0.0, replace-in_scope g M f sol n e.right h.0.1), replaced-equations n es h.1)

      -- in a signature without metavariables, which stays the same when they are replaced
      pub branches-in : ((i : ℕ) (d : Decl Term) → slice_get g i ≡ Some d → AllDecl HasNoMeta d) → BranchesIn g M (AnswersWith g f fuel depth)
      branches-in none c es ss b h k x =
          let c' = telescope_map (replace f) c in
          let es' = map (λ e. eq (replace f e.left) (replace f e.right)) es in
          let d : Unify g fuel depth (begin c' es') x.outcome x.is.0 = subst (λ g. Unify g fuel depth (begin c' es') x.outcome x.is.0) (signature_untouched f g none) x.is.1 in
          let n : length c ≡ length c' = sym (length-map c (entry_map (replace f))) in
          outcome-in x.is.0 c' es' ss b x.outcome (replaced-context c h) (subst (λ n. AllByRecursion (EquationInScope g M n) es') n (replaced-equations (length c) es k)) d x.says
