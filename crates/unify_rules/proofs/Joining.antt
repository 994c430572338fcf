-- The branch that the solutions give joins them.
use Rattle.std.specs.Prelude.{◌≡◌, ℕ, ◌+◌, ◌-◌, ◌<◌, ◌≤◌, ◌⊎◌, Bool, true, false, eqb, ltb, cond, List, [], ◌∷◌, length, reverse, slice_get, Option, Some, None, refl, zero, suc}
use Rattle.std.specs.List.{AllByRecursion}
use Rattle.std.proofs.Common.{ap, sym, ◌∙◌, subst as transport, arith, inl, inr, eqb-true}
use Rattle.std.proofs.lemmas.Grind.{common_steps}
use Rattle.std.proofs.lemmas.List.{length-reverse}
use Rattle.core_rules.specs.Term.{Term, Terms, Var, Sort, Pi, Lam, App, Def, Fam, Con, Proj, Meta, End, And, nameless, IsSameTerm}
use Rattle.core_rules.specs.Substitution.{shift, value_at, env_var, under}
use Rattle.core_rules.specs.Signature.{Context, onto, Signature}
use Rattle.core_rules.specs.InScope.{VarsBelow, AllVarsBelow}
use Rattle.core_rules.specs.Unification.{Equation, Solution, begin, Joins}
use Rattle.core_rules.proofs.Heads.OneAnswer.{one_some}
use Rattle.core_rules.proofs.Heads.Sound.{eqb_same}
use Rattle.core_rules.proofs.Typing.Scoped.{length-onto}
use Rattle.unify_rules.specs.Unifier.{Solved, Unify}
use Rattle.unify_rules.specs.UnifierLaws.{EquationBelow}
use Rattle.unify_rules.specs.Joined.{value_of, place_in, rename_var, rename, value_or_place, values_from, entries_of, keep_of, branch_of}
use Rattle.unify_rules.proofs.Only.{only, only_all, over-only, only-over}
use Rattle.unify_rules.proofs.Fewer.{EachOnly}
use Rattle.unify_rules.proofs.Order.{Unsolved, keep_has, keep_from, keep_once, got_member, place_below, place_is}
use Rattle.unify_rules.proofs.Sound.{Fresh, Kept, unify_kept}

-- variables below a number
abbrev pub below : ℕ → ℕ → Type 0
below m i = i < m

module _ (m : ℕ) where
  low : (d i : ℕ) → (i < d) ⊎ (i - d < m) → i < m + d
  low d i (inl l) = omega arith
  low d i (inr l) = omega arith

  deeper : (d : ℕ) (t : Term) → VarsBelow (m + (d + 1)) t → VarsBelow (m + d + 1) t
  deeper d t h = let r : m + (d + 1) ≡ m + d + 1 = omega arith in transport (λ n. VarsBelow n t) r h

  mutual
    pub only_below : (d : ℕ) (t : Term) → only (below m) d t → VarsBelow (m + d) t
    only_below d (Var i) h = low d i h
    only_below d (Sort n) h = tt
    only_below d (Pi b x s t) h = (only_below d s h.0, deeper d t (only_below (d + 1) t h.1))
    only_below d (Lam b x s t) h = (only_below d s h.0, deeper d t (only_below (d + 1) t h.1))
    only_below d (App b t u) h = (only_below d t h.0, only_below d u h.1)
    only_below d (Def k) h = tt
    only_below d (Fam k) h = tt
    only_below d (Con k ts) h = all_below d ts h
    only_below d (Proj k t) h = only_below d t h
    only_below d (Meta k ts) h = all_below d ts h

    all_below : (d : ℕ) (ts : Terms) → only_all (below m) d ts → AllVarsBelow (m + d) ts
    all_below d End h = tt
    all_below d (And t ts) h = (only_below d t h.0, all_below d ts h.1)

values_at : (ss : List Solution) (ks : List ℕ) (k n i : ℕ) → i < n → value_at (values_from ss ks k n) i ≡ value_or_place ks (k + i) (value_of ss (k + i))
values_at ss ks k zero i l = absurd (omega arith)
values_at ss ks k (suc n) zero l = let e : k ≡ k + 0 = omega arith in ap (λ x. value_or_place ks x (value_of ss x)) e
values_at ss ks k (suc n) (suc i) l = let e : suc k + i ≡ k + suc i = omega arith in values_at ss ks (suc k) n i (omega arith) ∙ ap (λ x. value_or_place ks x (value_of ss x)) e

values_got : (ss : List Solution) (ks : List ℕ) (k n i : ℕ) → i < n → slice_get (values_from ss ks k n) i ≡ Some (value_or_place ks (k + i) (value_of ss (k + i)))
values_got ss ks k zero i l = absurd (omega arith)
values_got ss ks k (suc n) zero l = let e : k ≡ k + 0 = omega arith in ap (λ x. Some (value_or_place ks x (value_of ss x))) e
values_got ss ks k (suc n) (suc i) l = let e : suc k + i ≡ k + suc i = omega arith in values_got ss ks (suc k) n i (omega arith) ∙ ap (λ x. Some (value_or_place ks x (value_of ss x))) e

values_length : (ss : List Solution) (ks : List ℕ) (k n : ℕ) → length (values_from ss ks k n) ≡ n
values_length ss ks k zero = refl
values_length ss ks k (suc n) = ap suc (values_length ss ks (suc k) n)

values_all : (Q : Term → Type 0) (ss : List Solution) (ks : List ℕ) (k n : ℕ) → ((i : ℕ) → i < k + n → Q (value_or_place ks i (value_of ss i))) → AllByRecursion Q (values_from ss ks k n)
values_all Q ss ks k zero h = tt
values_all Q ss ks k (suc n) h = (h k (omega arith), values_all Q ss ks (suc k) n (λ i l. h i (omega arith)))

pub entries_length : (c : Context Term) (ts : List Term) (ks : List ℕ) → length (entries_of c ts ks) ≡ length ks
entries_length c ts [] = refl
entries_length c ts (k ∷ ks) = ap suc (entries_length c ts ks)

all_map : {X : Type 0} (A B : X → Type 0) → ((x : X) → A x → B x) → (xs : List X) → AllByRecursion A xs → AllByRecursion B xs
all_map A B f [] h = tt
all_map A B f (x ∷ xs) h = (f x h.0, all_map A B f xs h.1)

all_three : {X : Type 0} (A B C D : X → Type 0) → ((x : X) → A x → B x → C x → D x) → (xs : List X) → AllByRecursion A xs → AllByRecursion B xs → AllByRecursion C xs → AllByRecursion D xs
all_three A B C D f [] a b c = tt
all_three A B C D f (x ∷ xs) a b c = (f x a.0 b.0 c.0, all_three A B C D f xs a.1 b.1 c.1)

-- each solution is found by its variable
found : (ss : List Solution) → Fresh ss → AllByRecursion (λ s. value_of ss s.var ≡ Some s.value) ss
found [] h = tt
found (s ∷ ss) h = (rw (eqb_same s.var) refl, all_map (λ q. value_of ss q.var ≡ Some q.value) (λ q. value_of (s ∷ ss) q.var ≡ Some q.value) (λ q e. behind q e) ss (found ss h.1))
  where
    behind : (q : Solution) → value_of ss q.var ≡ Some q.value → value_of (s ∷ ss) q.var ≡ Some q.value
    behind q e = by (eqb s.var q.var) refl
      where
        by : (b : Bool) → eqb s.var q.var ≡ b → cond b (Some s.value) (value_of ss q.var) ≡ Some q.value
        by true f = let r : value_of ss q.var ≡ None = transport (λ x. value_of ss x ≡ None) (eqb-true s.var q.var f) h.0 in absurd cc
        by false f = e

values_only : (Q : Term → Type 0) (qs : List Solution) → AllByRecursion (λ s. Q s.value) qs → (i : ℕ) (t : Term) → value_of qs i ≡ Some t → Q t
values_only Q [] a i t e = absurd cc
values_only Q (q ∷ qs) a i t e = by (λ f. values_only Q qs a.1 i t f) (eqb q.var i) e
  where
    by : (value_of qs i ≡ Some t → Q t) → (b : Bool) → cond b (Some q.value) (value_of qs i) ≡ Some t → Q t
    by r true f = transport Q (one_some f) a.0
    by r false f = r f

module _ (c : Context Term) (ts : List Term) (ss : List Solution) where
  abbrev pub keep : List ℕ
  keep = keep_of (length c) ts ss

  abbrev pub r : List Term
  r = values_from ss keep 0 (length c)

  abbrev P : ℕ → Type 0
  P = Unsolved ss (length c)

  rename_below : (d i : ℕ) → (i < d + 0) ⊎ P (i - (d + 0)) → only (below (length keep)) (d + 0) (rename_var keep d i)
  rename_below d i h = by (ltb i d) refl h
    where
      by : (b : Bool) → ltb i d ≡ b → (i < d + 0) ⊎ P (i - (d + 0)) → only (below (length keep)) (d + 0) (cond b (Var i) (Var (place_in keep (i - d) + d)))
      by true e h = inl (let l : i < d = grind (arith, common_steps) in omega arith)
      by false e (inl l) = absurd (let k : d ≤ i = grind (arith, common_steps) in omega arith)
      by false e (inr u) =
          let q : i - (d + 0) ≡ i - d = omega arith in
          let l : place_in keep (i - d) < length keep = place_below keep (i - d) (keep_has (length c) ts ss (i - d) (transport P q u)) in
          inr (omega arith)

  renamed_below : (t : Term) → only P 0 t → VarsBelow (length keep) (rename keep t)
  renamed_below t h = let q : length keep + 0 ≡ length keep = omega arith in transport (λ m. VarsBelow m (rename keep t)) q (only_below (length keep) 0 (rename keep t) (only-over P (below (length keep)) (rename_var keep) 0 0 rename_below 0 t h))

  at_unsolved : (i : ℕ) → P i → value_at r i ≡ Var (place_in keep i)
  at_unsolved i u = let e : 0 + i ≡ i = omega arith in values_at ss keep 0 (length c) i u.below ∙ (ap (λ x. value_or_place keep x (value_of ss x)) e ∙ ap (value_or_place keep i) u.none)

  same_var : (d i : ℕ) → (i < d) ⊎ P (i - d) → env_var r d i ≡ rename_var keep d i
  same_var d i h = by (ltb i d) refl h
    where
      by : (b : Bool) → ltb i d ≡ b → (i < d) ⊎ P (i - d) → cond b (Var i) (shift (value_at r (i - d)) 0 d) ≡ cond b (Var i) (Var (place_in keep (i - d) + d))
      by true e h = refl
      by false e (inl l) = absurd (let k : d ≤ i = grind (arith, common_steps) in omega arith)
      by false e (inr u) = ap (λ t. shift t 0 d) (at_unsolved (i - d) u) ∙ grind (arith, common_steps)

  pub under_renamed : (t : Term) → only P 0 t → under r t ≡ rename keep t
  under_renamed t h = over-only P (env_var r) (rename_var keep) same_var 0 t h

  solved : (s : Solution) → value_of ss s.var ≡ Some s.value → s.var < length c → only P 0 s.value → value_at r s.var ≡ under r s.value
  solved s e l o =
      let z : 0 + s.var ≡ s.var = omega arith in
      values_at ss keep 0 (length c) s.var l ∙ (ap (λ x. value_or_place keep x (value_of ss x)) z ∙ (ap (value_or_place keep s.var) e ∙ sym (under_renamed s.value o)))

  -- each solved variable has its value under r
  pub all_solved : Kept (length c) [] ss → AllByRecursion (λ s. value_at r s.var ≡ under r s.value) ss
  all_solved k = all_three (λ s. value_of ss s.var ≡ Some s.value) (λ s. s.var < length c) (λ s. only P 0 s.value) (λ s. value_at r s.var ≡ under r s.value) (λ s e l o. solved s e l o) ss (found ss k.fresh) k.below k.values

  pub joins : Kept (length c) [] ss → Joins c ss (onto (branch_of c ts ss).context []) (branch_of c ts ss).values (branch_of c ts ss).keep
  joins k = record {
    long = values_length ss keep 0 (length c);
    scoped = transport (λ m. AllByRecursion (λ t. VarsBelow m t) r) as_many (values_all (VarsBelow (length keep)) ss keep 0 (length c) (λ i l. scoped i (omega arith) (value_of ss i) refl));
    values = all_map (λ s. value_at r s.var ≡ under r s.value) (λ s. IsSameTerm (value_at r s.var) (under r s.value)) (λ s e. ap nameless e) ss (all_solved k);
    as_many = as_many;
    kept = kept;
  }
    where
      as_many : length keep ≡ length (onto (reverse (entries_of c ts keep)) [])
      as_many = sym (length-onto (reverse (entries_of c ts keep)) [] ∙ (let e = length-reverse (entries_of c ts keep) in let f = entries_length c ts keep in omega (arith, e, f)))

      scoped : (i : ℕ) → i < length c → (o : Option Term) → value_of ss i ≡ o → VarsBelow (length keep) (value_or_place keep i o)
      scoped i l None e = place_below keep i (keep_has (length c) ts ss i (record { below = l; none = e }))
      scoped i l (Some t) e = renamed_below t (values_only (only P 0) ss k.values i t e)

      kept : (j i : ℕ) → slice_get keep j ≡ Some i → slice_get r i ≡ Some (Var j)
      kept j i e =
          let u = keep_from (length c) ts ss i (got_member keep j i e) in
          let z : 0 + i ≡ i = omega arith in
          values_got ss keep 0 (length c) i u.below ∙ (ap (λ x. Some (value_or_place keep x (value_of ss x))) z ∙ (ap (λ o. Some (value_or_place keep i o)) u.none ∙ ap (λ p. Some (Var p)) (place_is keep j i (keep_once (length c) ts ss) e)))

module _ (n : ℕ) where
  open_var : (d i : ℕ) → i < n + d → (i < d) ⊎ Unsolved [] n (i - d)
  open_var d i l = by (ltb i d) refl
    where
      by : (b : Bool) → ltb i d ≡ b → (i < d) ⊎ Unsolved [] n (i - d)
      by true e = inl (grind (arith, common_steps))
      by false e = inr (record { below = (let k : d ≤ i = grind (arith, common_steps) in omega arith); none = refl })

  under_one : (d : ℕ) (t : Term) → VarsBelow (n + d + 1) t → VarsBelow (n + (d + 1)) t
  under_one d t h = let r : n + d + 1 ≡ n + (d + 1) = omega arith in transport (λ n. VarsBelow n t) r h

  mutual
    below_only : (d : ℕ) (t : Term) → VarsBelow (n + d) t → only (Unsolved [] n) d t
    below_only d (Var i) h = open_var d i h
    below_only d (Sort k) h = tt
    below_only d (Pi b x s t) h = (below_only d s h.0, below_only (d + 1) t (under_one d t h.1))
    below_only d (Lam b x s t) h = (below_only d s h.0, below_only (d + 1) t (under_one d t h.1))
    below_only d (App b t u) h = (below_only d t h.0, below_only d u h.1)
    below_only d (Def k) h = tt
    below_only d (Fam k) h = tt
    below_only d (Con k ts) h = below_all d ts h
    below_only d (Proj k t) h = below_only d t h
    below_only d (Meta k ts) h = below_all d ts h

    below_all : (d : ℕ) (ts : Terms) → AllVarsBelow (n + d) ts → only_all (Unsolved [] n) d ts
    below_all d End h = tt
    below_all d (And t ts) h = (below_only d t h.0, below_all d ts h.1)

  pub at_first : (t : Term) → VarsBelow n t → only (Unsolved [] n) 0 t
  at_first t h = below_only 0 t (let r : n ≡ n + 0 = omega arith in transport (λ m. VarsBelow m t) r h)

  pub equations_only : (es : List Equation) → AllByRecursion (EquationBelow n) es → EachOnly (Unsolved [] n) es
  equations_only [] h = tt
  equations_only (e ∷ es) h = ((at_first e.left h.0.0, at_first e.right h.0.1), equations_only es h.1)

pub solved_joins : (g : Signature Term) (fuel depth n : ℕ) (c : Context Term) (es : List Equation) (ts : List Term) (ss : List Solution) → AllByRecursion (EquationBelow (length c)) es → Unify g fuel depth (begin c es) (Solved ts ss) n
    → Joins c ss (onto (branch_of c ts ss).context []) (branch_of c ts ss).values (branch_of c ts ss).keep
solved_joins g fuel depth n c es ts ss a d = joins c ts ss (unify_kept (length c) g fuel depth d (record { equations = equations_only (length c) es a; values = tt; below = tt; fresh = tt }))
