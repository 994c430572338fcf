-- Acyclic solutions can be put in in full.
use Rattle.std.specs.Prelude.{◌≡◌, ℕ, ◌<◌, ◌≤◌, refl, Option, Some, None, option_map, zero, suc}
use Rattle.std.proofs.Common.{ap, ap₂, sym, ◌∙◌, arith}
use Rattle.core_rules.specs.Term.{Term, Terms, Var, Sort, Pi, Lam, App, Def, Fam, Con, Proj, Meta, End, And, AllMetas, AllMetasIn, HasNoMeta}
use Rattle.core_rules.specs.Substitution.{put_solution, replace, replace_all, instantiate}
use Rattle.core_rules.specs.InScope.{IsAcyclic}
use Rattle.core_rules.specs.Heads.{Solutions}
use Rattle.core_rules.specs.Bounded.{full}
use Rattle.core_rules.specs.BoundedLaws.{no_solutions, IsFull}

module _ (P Q : ℕ → Type 0) (h : (k : ℕ) → P k → Q k) where
  mutual
    pub weaker : (t : Term) → AllMetas P t → AllMetas Q t
    weaker (Var i) p = tt
    weaker (Sort n) p = tt
    weaker (Pi b x a t) p = (weaker a p.0, weaker t p.1)
    weaker (Lam b x a t) p = (weaker a p.0, weaker t p.1)
    weaker (App b t u) p = (weaker t p.0, weaker u p.1)
    weaker (Def i) p = tt
    weaker (Fam i) p = tt
    weaker (Con k ts) p = weaker_all ts p
    weaker (Proj i t) p = weaker t p
    weaker (Meta m ts) p = (h m p.0, weaker_all ts p.1)

    weaker_all : (ts : Terms) → AllMetasIn P ts → AllMetasIn Q ts
    weaker_all End p = tt
    weaker_all (And t ts) p = (weaker t p.0, weaker_all ts p.1)

-- solutions that agree on the metavariables of a term
module _ (r s : Solutions) where
  mutual
    pub replace_alike : (t : Term) → AllMetas (λ k. r k ≡ s k) t → replace r t ≡ replace s t
    replace_alike (Var i) p = refl
    replace_alike (Sort n) p = refl
    replace_alike (Pi b x a t) p = cc (replace_alike a p.0, replace_alike t p.1)
    replace_alike (Lam b x a t) p = cc (replace_alike a p.0, replace_alike t p.1)
    replace_alike (App b t u) p = cc (replace_alike t p.0, replace_alike u p.1)
    replace_alike (Def i) p = refl
    replace_alike (Fam i) p = refl
    replace_alike (Con k ts) p = ap (Con k) (replace_all_alike ts p)
    replace_alike (Proj i t) p = ap (Proj i) (replace_alike t p)
    replace_alike (Meta m ts) p = ap₂ (put_solution m) (replace_all_alike ts p.1) p.0

    replace_all_alike : (ts : Terms) → AllMetasIn (λ k. r k ≡ s k) ts → replace_all r ts ≡ replace_all s ts
    replace_all_alike End p = refl
    replace_all_alike (And t ts) p = cc (replace_alike t p.0, replace_all_alike ts p.1)

mutual
  -- a term without metavariables stays
  pub replace_none : (s : Solutions) (t : Term) → HasNoMeta t → replace s t ≡ t
  replace_none s (Var i) p = refl
  replace_none s (Sort n) p = refl
  replace_none s (Pi b x a t) p = cc (replace_none s a p.0, replace_none s t p.1)
  replace_none s (Lam b x a t) p = cc (replace_none s a p.0, replace_none s t p.1)
  replace_none s (App b t u) p = cc (replace_none s t p.0, replace_none s u p.1)
  replace_none s (Def i) p = refl
  replace_none s (Fam i) p = refl
  replace_none s (Con k ts) p = ap (Con k) (replace_none_all s ts p)
  replace_none s (Proj i t) p = ap (Proj i) (replace_none s t p)
  replace_none s (Meta m ts) p = absurd p.0

  replace_none_all : (s : Solutions) (ts : Terms) → AllMetasIn (λ m. ⊥) ts → replace_all s ts ≡ ts
  replace_none_all s End p = refl
  replace_none_all s (And t ts) p = cc (replace_none s t p.0, replace_none_all s ts p.1)

module _ (s : Solutions) (a : IsAcyclic s) where
  none_below : (t : Term) → AllMetas (λ k. a.rank k < 0) t → HasNoMeta t
  none_below t p = weaker (λ k. a.rank k < 0) (λ k. ⊥) (λ k h. absurd (omega arith)) t p

  no_depth : (n : ℕ) (t : Term) → HasNoMeta t → instantiate n s t ≡ t
  unfolding instantiate
  no_depth zero t p = refl
  no_depth (suc n) t p = replace_none (λ m. option_map (instantiate n s) (s m)) t p

  -- solutions of metavariables of rank below b, put in at two depths
  module _ (b : ℕ) (r q : Term → Term) (alike : (k : ℕ) (u : Term) → s k ≡ Some u → a.rank k < b → r u ≡ q u) where
    same_solution : (k : ℕ) (o : Option Term) → s k ≡ o → a.rank k < b → option_map r o ≡ option_map q o
    same_solution k None e h = refl
    same_solution k (Some u) e h = ap Some (alike k u e h)

    same_depth : (t : Term) → AllMetas (λ k. a.rank k < b) t → replace (λ k. option_map r (s k)) t ≡ replace (λ k. option_map q (s k)) t
    same_depth t p = replace_alike (λ k. option_map r (s k)) (λ k. option_map q (s k)) t (weaker (λ k. a.rank k < b) (λ k. option_map r (s k) ≡ option_map q (s k)) (λ k h. same_solution k (s k) refl h) t p)

  -- any two depths are enough that no metavariable has a rank of
  agree : (n m b : ℕ) → b ≤ n → b ≤ m → (t : Term) → AllMetas (λ k. a.rank k < b) t → instantiate n s t ≡ instantiate m s t
  unfolding instantiate
  agree zero m b h i t p = sym (no_depth m t (none_below t (weaker (λ k. a.rank k < b) (λ k. a.rank k < 0) (λ k j. omega (arith, j, h)) t p)))
  agree (suc n) zero b h i t p = no_depth (suc n) t (none_below t (weaker (λ k. a.rank k < b) (λ k. a.rank k < 0) (λ k j. omega (arith, j, i)) t p))
  agree (suc n) (suc m) b h i t p = same_depth b (instantiate n s) (instantiate m s) (λ k u e j. agree n m (a.rank k) (omega (arith, j, h)) (omega (arith, j, i)) u (a.falls k u e)) t p

  to_rank : (n k : ℕ) (o : Option Term) → s k ≡ o → a.rank k < suc n → option_map (instantiate n s) o ≡ option_map (instantiate (a.rank k) s) o
  to_rank n k None e h = refl
  to_rank n k (Some u) e h = ap Some (agree n (a.rank k) (a.rank k) (omega arith) (omega arith) u (a.falls k u e))

  pub in_full : (n : ℕ) (t : Term) → AllMetas (λ k. a.rank k < n) t → instantiate n s t ≡ replace (full s a) t
  unfolding instantiate
  in_full zero t p = sym (replace_none (full s a) t (none_below t p))
  in_full (suc n) t p =
      replace_alike (λ k. option_map (instantiate n s) (s k)) (full s a) t
      (weaker (λ k. a.rank k < suc n) (λ k. option_map (instantiate n s) (s k) ≡ full s a k) (λ k h. to_rank n k (s k) refl h) t p)

  pub full_is_full : IsFull s (full s a)
  full_is_full = record {
    solved = λ m t e. ap (option_map (instantiate (a.rank m) s)) e ∙ ap Some (in_full (a.rank m) t (a.falls m t e));
    unsolved = λ m e. ap (option_map (instantiate (a.rank m) s)) e;
  }

mutual
  replace_nothing : (t : Term) → replace no_solutions t ≡ t
  replace_nothing (Var i) = refl
  replace_nothing (Sort n) = refl
  replace_nothing (Pi b x a t) = cc (replace_nothing a, replace_nothing t)
  replace_nothing (Lam b x a t) = cc (replace_nothing a, replace_nothing t)
  replace_nothing (App b t u) = cc (replace_nothing t, replace_nothing u)
  replace_nothing (Def i) = refl
  replace_nothing (Fam i) = refl
  replace_nothing (Con k ts) = ap (Con k) (replace_nothing_in ts)
  replace_nothing (Proj i t) = ap (Proj i) (replace_nothing t)
  replace_nothing (Meta m ts) = ap (Meta m) (replace_nothing_in ts)

  replace_nothing_in : (ts : Terms) → replace_all no_solutions ts ≡ ts
  replace_nothing_in End = refl
  replace_nothing_in (And t ts) = cc (replace_nothing t, replace_nothing_in ts)

pub nothing_to_replace : IsFull no_solutions no_solutions × ((t : Term) → replace no_solutions t ≡ t)
nothing_to_replace = (record { solved = λ m t e. absurd cc; unsolved = λ m e. refl }, replace_nothing)
