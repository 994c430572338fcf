-- How many solved metavariables there are to replace until the head of a term is none.
use Rattle.std.specs.Prelude.{◌≡◌, ℕ, zero, suc, ◌-◌, ◌<◌, ◌≤◌, ltb, false, List, [], ◌∷◌, length, map, reverse, get_or, Option, Some, None, refl}
use Rattle.std.proofs.Common.{arith, sym, ap, ◌∙◌}
use Rattle.std.proofs.lemmas.Grind.{common_steps}
use Rattle.core_rules.specs.Term.{Term, Terms, Var, Sort, Pi, Lam, App, Def, Fam, Con, Proj, Meta, End, And, to_list, env_of, AllMetas, AllMetasIn}
use Rattle.core_rules.specs.Substitution.{over_all, under, env_var, value_at, put_solution}
use Rattle.core_rules.specs.InScope.{IsAcyclic}
use Rattle.core_rules.specs.Heads.{Solutions}
use Rattle.core_rules.proofs.Substitution.Lifted.{shift_none}
use Rattle.el_base.proofs.Lists.{map-reverse}
use Rattle.weak_head.proofs.Ranks.{AreAmong, low_ranks, low}

module _ (s : Solutions) where
  module _ (deeper : List ℕ → Term → ℕ) where
    abbrev look_in : Option Term → List ℕ → ℕ
    look_in None vs = 0
    look_in (Some t) vs = suc (deeper (reverse vs) t)

    -- where the variables stand for terms with so many
    abbrev mutual
      look : List ℕ → Term → ℕ
      look vs (Var i) = get_or vs i 0
      look vs (Meta m ts) = look_in (s m) (look_all vs ts)
      look vs (Sort n) = 0
      look vs (Pi b x a t) = 0
      look vs (Lam b x a t) = 0
      look vs (App b t u) = 0
      look vs (Def f) = 0
      look vs (Fam d) = 0
      look vs (Con k ts) = 0
      look vs (Proj f t) = 0

      look_all : List ℕ → Terms → List ℕ
      look_all vs End = []
      look_all vs (And t ts) = look vs t ∷ look_all vs ts

    look_values : (r : List Term) (i : ℕ) → look [] (value_at r i) ≡ get_or (map (look []) r) i 0
    look_values [] i = refl
    look_values (t ∷ r) zero = refl
    look_values (t ∷ r) (suc i) = look_values r i

    under_variable : (r : List Term) (i : ℕ) → under r (Var i) ≡ value_at r i
    under_variable r i =
        let t : ltb i 0 ≡ false = grind (arith, common_steps) in
        let k : i - 0 ≡ i = omega arith in
        rw (t, k) (shift_none (value_at r i) 0)

    module _ (r : List Term) where
      mutual
        look_under : (t : Term) → look [] (under r t) ≡ look (map (look []) r) t
        look_under (Var i) = ap (look []) (under_variable r i) ∙ look_values r i
        look_under (Meta m ts) = ap (look_in (s m)) (look_under_all ts)
        look_under (Sort n) = refl
        look_under (Pi b x a t) = refl
        look_under (Lam b x a t) = refl
        look_under (App b t u) = refl
        look_under (Def f) = refl
        look_under (Fam d) = refl
        look_under (Con k ts) = refl
        look_under (Proj f t) = refl

        look_under_all : (ts : Terms) → look_all [] (over_all (env_var r) 0 ts) ≡ look_all (map (look []) r) ts
        look_under_all End = refl
        look_under_all (And t ts) = cc (look_under t, look_under_all ts)

    look_list : (ts : Terms) → look_all [] ts ≡ map (look []) (to_list ts)
    look_list End = refl
    look_list (And t ts) = ap (λ l. look [] t ∷ l) (look_list ts)

  -- through n solutions within one another
  abbrev before : ℕ → List ℕ → Term → ℕ
  before zero vs t = 0
  before (suc n) vs t = look (before n) vs t

  module _ (a : IsAcyclic s) where
    -- a depth is enough where it is for the solutions of the metavariables of a term
    module _ (n b : ℕ) (solved : (m : ℕ) (ws : List ℕ) → a.rank m < b → look_in (before n) (s m) ws ≡ look_in (before (suc n)) (s m) ws) where
      mutual
        steady_at : (vs : List ℕ) (t : Term) → AllMetas (λ k. a.rank k < b) t → look (before n) vs t ≡ look (before (suc n)) vs t
        steady_at vs (Var i) p = refl
        steady_at vs (Meta m ts) p = ap (look_in (before n) (s m)) (steady_all vs ts p.1) ∙ solved m (look_all (before (suc n)) vs ts) p.0
        steady_at vs (Sort k) p = refl
        steady_at vs (Pi c x u t) p = refl
        steady_at vs (Lam c x u t) p = refl
        steady_at vs (App c t u) p = refl
        steady_at vs (Def f) p = refl
        steady_at vs (Fam d) p = refl
        steady_at vs (Con k ts) p = refl
        steady_at vs (Proj f t) p = refl

        steady_all : (vs : List ℕ) (ts : Terms) → AllMetasIn (λ k. a.rank k < b) ts → look_all (before n) vs ts ≡ look_all (before (suc n)) vs ts
        steady_all vs End p = refl
        steady_all vs (And t ts) p = cc (steady_at vs t p.0, steady_all vs ts p.1)

    steady_in : (n m : ℕ) → ((vs : List ℕ) (t : Term) → AllMetas (λ k. a.rank k < a.rank m) t → look (before n) vs t ≡ look (before (suc n)) vs t) → (o : Option Term) → s m ≡ o → (ws : List ℕ) → look_in (before (suc n)) o ws ≡ look_in (before (suc (suc n))) o ws
    steady_in n m rec None e ws = refl
    steady_in n m rec (Some u) e ws = ap suc (rec (reverse ws) u (a.falls m u e))

    steady : (n b : ℕ) → b ≤ n → (vs : List ℕ) (t : Term) → AllMetas (λ k. a.rank k < b) t → look (before n) vs t ≡ look (before (suc n)) vs t
    steady zero b h vs t p = steady_at zero b (λ m ws l. absurd (omega (arith, l, h))) vs t p
    steady (suc n) b h vs t p = steady_at (suc n) b (λ m ws l. steady_in n m (λ us u q. steady n (a.rank m) (omega (arith, l, h)) us u q) (s m) refl ws) vs t p

    hops_fall_by : (k m : ℕ) (ts : Terms) (t : Term) → s m ≡ Some t → a.rank m ≤ k → look (before (suc k)) [] (put_solution m ts (Some t)) < look (before (suc k)) [] (Meta m ts)
    hops_fall_by k m ts t e h =
        let vs = look_all (before (suc k)) [] ts in
        let here : look (before (suc k)) [] (Meta m ts) ≡ suc (look (before k) (reverse vs) t) = ap (λ o. look_in (before (suc k)) o vs) e in
        let env : map (look (before (suc k)) []) (env_of ts) ≡ reverse vs = map-reverse (look (before (suc k)) []) (to_list ts) ∙ ap reverse (sym (look_list (before (suc k)) ts)) in
        let there : look (before (suc k)) [] (under (env_of ts) t) ≡ look (before k) (reverse vs) t =
        look_under (before (suc k)) (env_of ts) t ∙ ap (λ l. look (before (suc k)) l t) env ∙ sym (steady k (a.rank m) h (reverse vs) t (a.falls m t e)) in
        omega (arith, here, there)

-- where the solutions stand among these terms
abbrev pub hops : Solutions → List Term → Term → ℕ
hops s us t = look s (before s (suc (length us))) [] t

pub hops_fall : (s : Solutions) (us : List Term) → AreAmong us s → IsAcyclic s → (m : ℕ) (ts : Terms) (t : Term) → s m ≡ Some t → hops s us (put_solution m ts (Some t)) < hops s us (Meta m ts)
hops_fall s us w a m ts t e = hops_fall_by s (low_ranks us s w a) (length us) m ts t e (low us s w a m)
