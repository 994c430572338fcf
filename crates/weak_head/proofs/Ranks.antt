-- Acyclic solutions that stand among n terms have ranks up to n, so that solutions put in n deep are full.
use Rattle.std.specs.Prelude.{◌≡◌, ℕ, zero, suc, ◌+◌, ◌<◌, ◌≤◌, max, true, false, ltb, cond, List, [], ◌∷◌, length, get_or, Option, Some, None, option_map, refl}
use Rattle.std.proofs.Common.{arith, sym, ap, ◌∙◌}
use Rattle.std.proofs.lemmas.Grind.{common_steps}
use Rattle.core_rules.specs.Term.{Term, Terms, Var, Sort, Pi, Lam, App, Def, Fam, Con, Proj, Meta, End, And, AllMetas, AllMetasIn}
use Rattle.core_rules.specs.Substitution.{replace, instantiate}
use Rattle.core_rules.specs.InScope.{IsAcyclic}
use Rattle.core_rules.specs.Heads.{Solutions}
use Rattle.core_rules.specs.Bounded.{full}
use Rattle.core_rules.specs.BoundedLaws.{IsFull}
use Rattle.core_rules.proofs.Heads.FullSolutions.{weaker, replace_alike, in_full}

-- each solution is one of these terms
pub record AreAmong (ts : List Term) (s : Solutions) : Type 0 where
  pub at : (m : ℕ) (t : Term) → s m ≡ Some t → (i : ℕ) × (i < length ts) × (get_or ts i (Sort 0) ≡ t)

module _ (rank : ℕ → ℕ) where
  -- more than the rank of each metavariable of a term
  abbrev mutual
    top : Term → ℕ
    top (Var i) = 0
    top (Sort n) = 0
    top (Pi b x a t) = max (top a) (top t)
    top (Lam b x a t) = max (top a) (top t)
    top (App b t u) = max (top t) (top u)
    top (Def f) = 0
    top (Fam d) = 0
    top (Con k ts) = top_all ts
    top (Proj f t) = top t
    top (Meta m ts) = max (suc (rank m)) (top_all ts)

    top_all : Terms → ℕ
    top_all End = 0
    top_all (And t ts) = max (top t) (top_all ts)

  raised : (a b : ℕ) → a ≤ b → (t : Term) → AllMetas (λ k. rank k < a) t → AllMetas (λ k. rank k < b) t
  raised a b h t p = weaker (λ k. rank k < a) (λ k. rank k < b) (λ k l. omega (arith, l, h)) t p

  raised_all : (a b : ℕ) → a ≤ b → (ts : Terms) → AllMetasIn (λ k. rank k < a) ts → AllMetasIn (λ k. rank k < b) ts
  raised_all a b h ts p = raised a b h (Con 0 ts) p

  mutual
    top_above : (t : Term) → AllMetas (λ k. rank k < top t) t
    top_above (Var i) = tt
    top_above (Sort n) = tt
    top_above (Pi b x a t) = (raised (top a) (max (top a) (top t)) (omega arith) a (top_above a), raised (top t) (max (top a) (top t)) (omega arith) t (top_above t))
    top_above (Lam b x a t) = (raised (top a) (max (top a) (top t)) (omega arith) a (top_above a), raised (top t) (max (top a) (top t)) (omega arith) t (top_above t))
    top_above (App b t u) = (raised (top t) (max (top t) (top u)) (omega arith) t (top_above t), raised (top u) (max (top t) (top u)) (omega arith) u (top_above u))
    top_above (Def f) = tt
    top_above (Fam d) = tt
    top_above (Con k ts) = top_above_all ts
    top_above (Proj f t) = top_above t
    top_above (Meta m ts) = (omega arith, raised_all (top_all ts) (max (suc (rank m)) (top_all ts)) (omega arith) ts (top_above_all ts))

    top_above_all : (ts : Terms) → AllMetasIn (λ k. rank k < top_all ts) ts
    top_above_all End = tt
    top_above_all (And t ts) = (raised (top t) (max (top t) (top_all ts)) (omega arith) t (top_above t), raised_all (top_all ts) (max (top t) (top_all ts)) (omega arith) ts (top_above_all ts))

  mutual
    top_least : (b : ℕ) (t : Term) → AllMetas (λ k. rank k < b) t → top t ≤ b
    top_least b (Var i) p = omega arith
    top_least b (Sort n) p = omega arith
    top_least b (Pi c x a t) p = let h = top_least b a p.0 in let i = top_least b t p.1 in omega (arith, h, i)
    top_least b (Lam c x a t) p = let h = top_least b a p.0 in let i = top_least b t p.1 in omega (arith, h, i)
    top_least b (App c t u) p = let h = top_least b t p.0 in let i = top_least b u p.1 in omega (arith, h, i)
    top_least b (Def f) p = omega arith
    top_least b (Fam d) p = omega arith
    top_least b (Con k ts) p = top_least_all b ts p
    top_least b (Proj f t) p = top_least b t p
    top_least b (Meta m ts) p = let h = p.0 in let i = top_least_all b ts p.1 in omega (arith, h, i)

    top_least_all : (b : ℕ) (ts : Terms) → AllMetasIn (λ k. rank k < b) ts → top_all ts ≤ b
    top_least_all b End p = omega arith
    top_least_all b (And t ts) p = let h = top_least b t p.0 in let i = top_least_all b ts p.1 in omega (arith, h, i)

  -- how many of the terms have metavariables of rank below x alone
  abbrev one : ℕ → ℕ → ℕ
  one x n = cond (ltb x n) 0 1

  one_yes : (x n : ℕ) → n ≤ x → one x n ≡ 1
  one_yes x n h = grind (arith, common_steps)

  one_no : (x n : ℕ) → x < n → one x n ≡ 0
  one_no x n h = grind (arith, common_steps)

  one_most : (x n : ℕ) → one x n ≤ 1
  one_most x n = elim (ltb x n) as (λ b. cond b 0 1 ≤ 1) [ true ↦ omega arith | false ↦ omega arith ]

  one_more : (x y n : ℕ) → x ≤ y → one x n ≤ one y n
  one_more x y n h = grind (arith, common_steps)

  abbrev count : ℕ → List Term → ℕ
  count x [] = 0
  count x (t ∷ ts) = one x (top t) + count x ts

  count_most : (x : ℕ) (ts : List Term) → count x ts ≤ length ts
  count_most x [] = omega arith
  count_most x (t ∷ ts) = let h = one_most x (top t) in let i = count_most x ts in omega (arith, h, i)

  count_more : (x y : ℕ) (ts : List Term) → x ≤ y → count x ts ≤ count y ts
  count_more x y [] h = omega arith
  count_more x y (t ∷ ts) h = let i = one_more x y (top t) h in let j = count_more x y ts h in omega (arith, i, j)

  counts_on : (x y : ℕ) (ts : List Term) (i : ℕ) → i < length ts → x < top (get_or ts i (Sort 0)) → top (get_or ts i (Sort 0)) ≤ y → count x ts < count y ts
  counts_on x y [] i l h k = absurd (omega (arith, l))
  counts_on x y (t ∷ ts) zero l h k =
      let a = one_no x (top t) h in let b = one_yes y (top t) k in
      let c = count_more x y ts (omega (arith, h, k)) in omega (arith, a, b, c)
  counts_on x y (t ∷ ts) (suc i) l h k =
      let a = counts_on x y ts i (omega (arith, l)) h k in
      let b = one_more x y (top t) (omega (arith, h, k)) in omega (arith, a, b)

module _ (ts : List Term) (s : Solutions) (in_terms : AreAmong ts s) (a : IsAcyclic s) where
  below : (m k : ℕ) (t : Term) → s m ≡ Some t → a.rank k < top a.rank t → count a.rank (a.rank k) ts < count a.rank (a.rank m) ts
  below m k t e h =
      let w = in_terms.at m t e in
      let n = top_least a.rank (a.rank m) t (a.falls m t e) in
      let same : top a.rank (get_or ts w.0 (Sort 0)) ≡ top a.rank t = ap (top a.rank) w.2 in
      counts_on a.rank (a.rank k) (a.rank m) ts w.0 w.1 (omega (arith, h, same)) (omega (arith, n, same))

  -- the same with low ranks
  pub low_ranks : IsAcyclic s
  low_ranks = record {
    rank = λ m. count a.rank (a.rank m) ts;
    falls = λ m t e. weaker (λ k. a.rank k < top a.rank t) (λ k. count a.rank (a.rank k) ts < count a.rank (a.rank m) ts) (λ k h. below m k t e h) t (top_above a.rank t);
  }

pub low : (ts : List Term) (s : Solutions) (w : AreAmong ts s) (a : IsAcyclic s) (m : ℕ) → (low_ranks ts s w a).rank m ≤ length ts
unfolding low_ranks
low ts s w a m = count_most a.rank (a.rank m) ts

-- solutions, with what is solved in them put in n deep
abbrev pub put_in : ℕ → Solutions → Solutions
put_in n s m = option_map (instantiate n s) (s m)

module _ (s : Solutions) (a : IsAcyclic s) (n : ℕ) (h : (m : ℕ) → a.rank m ≤ n) where
  alike : (k : ℕ) (o : Option Term) → s k ≡ o → option_map (instantiate (a.rank k) s) o ≡ option_map (instantiate n s) o
  alike k None e = refl
  alike k (Some u) e = ap Some (in_full s a (a.rank k) u (a.falls k u e) ∙ sym (in_full s a n u (raised a.rank (a.rank k) n (h k) u (a.falls k u e))))

  full_alike : (t : Term) → replace (full s a) t ≡ replace (put_in n s) t
  full_alike t = replace_alike (full s a) (put_in n s) t (weaker (λ k. a.rank k < top a.rank t) (λ k. full s a k ≡ put_in n s k) (λ k l. alike k (s k) refl) t (top_above a.rank t))

  pub put_in_full : IsFull s (put_in n s)
  put_in_full = record {
    solved = λ m t e. ap (option_map (instantiate n s)) e ∙ ap Some (in_full s a n t (raised a.rank (a.rank m) n (h m) t (a.falls m t e)) ∙ full_alike t);
    unsolved = λ m e. ap (option_map (instantiate n s)) e;
  }

pub full_among : (ts : List Term) (s : Solutions) → AreAmong ts s → IsAcyclic s → IsFull s (put_in (length ts) s)
full_among ts s w a = put_in_full s (low_ranks ts s w a) (length ts) (low ts s w a)
