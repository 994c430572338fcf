-- A walk through parts and types reaches the variables on which a term depends, and what one visit of it opens.
use Rattle.std.specs.Prelude.{◌≡◌, ℕ, ◌+◌, ◌-◌, ◌<◌, ◌≤◌, ◌⊎◌, max, eqb, ltb, Bool, true, false, ◌||◌, List, [], ◌∷◌, length, refl, zero, suc}
use Rattle.std.proofs.Common.{sym, ap, ◌∙◌, subst, inl, inr, arith, eqb-true}
use Rattle.std.proofs.lemmas.Grind.{common_steps}
use Rattle.core_rules.specs.declared.Flag.{Flag}
use Rattle.core_rules.specs.Term.{Term, Terms, Var, Sort, Pi, Lam, App, Def, Fam, Con, Proj, Meta, End, And, occurs, occurs_in}
use Rattle.core_rules.specs.Substitution.{value_at}
use Rattle.core_rules.specs.Unification.{Depends, stands, through}
use Rattle.term_pool.specs.Lists.{list}
use Rattle.term_pool.specs.Reach.{reach, reach_all}
use Rattle.index_unify.specs.Walk.{Place, Reaches, here, on}
use Rattle.index_unify.specs.Dependence.{Part, pi_domain, pi_codomain, lam_domain, lam_body, app_fun, app_arg, con_params, proj_of, meta_args, Edge, to_part, to_type, Goal, met, DependsOn}

pub eqb_refl : (i : ℕ) → eqb i i ≡ true
eqb_refl i = grind (arith, common_steps)

or-left : (a b : Bool) → a ≡ true → (a || b) ≡ true
or-left true b e = refl
or-left false b e = absurd cc

or-right : (a b : Bool) → b ≡ true → (a || b) ≡ true
or-right true b e = refl
or-right false b e = e

either : (a b : Bool) → (a || b) ≡ true → (a ≡ true) ⊎ (b ≡ true)
either true b e = inl refl
either false b e = inr e

occurs_list : (n : ℕ) (ts : Terms) → occurs n (list ts) ≡ occurs_in n ts
occurs_list n End = refl
occurs_list n (And t ts) = cc (occurs_list n ts)

-- what stands in a part stands in the term
part-occurs : {t u : Term} {k : ℕ} (n : ℕ) → Part t u k → occurs (n + k) u ≡ true → occurs n t ≡ true
part-occurs n (pi_domain {a = a} {t = t}) o = or-left (occurs n a) (occurs (n + 1) t) (subst (λ i. occurs i a ≡ true) (omega arith) o)
part-occurs n (pi_codomain {a = a} {t = t}) o = or-right (occurs n a) (occurs (n + 1) t) o
part-occurs n (lam_domain {a = a} {t = t}) o = or-left (occurs n a) (occurs (n + 1) t) (subst (λ i. occurs i a ≡ true) (omega arith) o)
part-occurs n (lam_body {a = a} {t = t}) o = or-right (occurs n a) (occurs (n + 1) t) o
part-occurs n (app_fun {t = t} {u = u}) o = or-left (occurs n t) (occurs n u) (subst (λ i. occurs i t ≡ true) (omega arith) o)
part-occurs n (app_arg {t = t} {u = u}) o = or-right (occurs n t) (occurs n u) (subst (λ i. occurs i u ≡ true) (omega arith) o)
part-occurs n (con_params {ts = ts}) o = sym (occurs_list n ts) ∙ subst (λ i. occurs i (list ts) ≡ true) (omega arith) o
part-occurs n (proj_of {t = t}) o = subst (λ i. occurs i t ≡ true) (omega arith) o
part-occurs n (meta_args {ts = ts}) o = sym (occurs_list n ts) ∙ subst (λ i. occurs i (list ts) ≡ true) (omega arith) o

binder : (n : ℕ) (a t : Term) → (occurs n a ≡ true) ⊎ (occurs (n + 1) t ≡ true) → (occurs n a ≡ true → n < reach a) → (occurs (n + 1) t ≡ true → n + 1 < reach t) → n < max (reach a) (reach t - 1)
binder n a t (inl o) f g = let l = f o in omega arith
binder n a t (inr o) f g = let l = g o in omega arith

two : (n : ℕ) (t u : Term) → (occurs n t ≡ true) ⊎ (occurs n u ≡ true) → (occurs n t ≡ true → n < reach t) → (occurs n u ≡ true → n < reach u) → n < max (reach t) (reach u)
two n t u (inl o) f g = let l = f o in omega arith
two n t u (inr o) f g = let l = g o in omega arith

items : (n : ℕ) (t : Term) (ts : Terms) → (occurs n t ≡ true) ⊎ (occurs_in n ts ≡ true) → (occurs n t ≡ true → n < reach t) → (occurs_in n ts ≡ true → n < reach_all ts) → n < max (reach t) (reach_all ts)
items n t ts (inl o) f g = let l = f o in omega arith
items n t ts (inr o) f g = let l = g o in omega arith

mutual
  occurs-reach : (n : ℕ) (t : Term) → occurs n t ≡ true → n < reach t
  occurs-reach n (Var i) o = let e = eqb-true i n o in omega arith
  occurs-reach n (Sort i) o = absurd cc
  occurs-reach n (Pi b x a t) o = binder n a t (either (occurs n a) (occurs (n + 1) t) o) (occurs-reach n a) (occurs-reach (n + 1) t)
  occurs-reach n (Lam b x a t) o = binder n a t (either (occurs n a) (occurs (n + 1) t) o) (occurs-reach n a) (occurs-reach (n + 1) t)
  occurs-reach n (App b t u) o = two n t u (either (occurs n t) (occurs n u) o) (occurs-reach n t) (occurs-reach n u)
  occurs-reach n (Def f) o = absurd cc
  occurs-reach n (Fam d) o = absurd cc
  occurs-reach n (Con k ts) o = occurs_in-reach n ts o
  occurs-reach n (Proj f t) o = occurs-reach n t o
  occurs-reach n (Meta m ts) o = occurs_in-reach n ts o

  occurs_in-reach : (n : ℕ) (ts : Terms) → occurs_in n ts ≡ true → n < reach_all ts
  occurs_in-reach n End o = absurd cc
  occurs_in-reach n (And t ts) o = items n t ts (either (occurs n t) (occurs_in n ts) o) (occurs-reach n t) (occurs_in-reach n ts)

module _ (ts : List Term) (h : ℕ → Bool) where
  abbrev R : Place → Type 0
  R = Reaches (Edge ts) (Goal h)

  -- under d binders t depends on x
  abbrev At : ℕ → Term → ℕ → Type 0
  At d t x = (occurs (x + d) t ≡ true) ⊎ ((y : ℕ) × (occurs (y + d) t ≡ true) × Depends ts (value_at ts y) x)

  abbrev Found : Place → Type 0
  Found z = (x : ℕ) × (h x ≡ true) × At z.1 z.0 x

  var-occurs : (i d : ℕ) → d ≤ i → occurs (i - d + d) (Var i) ≡ true
  var-occurs i d l = let e : i - d + d ≡ i = omega arith in subst (λ n. eqb i n ≡ true) (sym e) (eqb_refl i)

  from-part : {t u : Term} {k : ℕ} (d x : ℕ) → Part t u k → At (d + k) u x → At d t x
  from-part {t} {u} {k} d x p (inl o) = inl (part-occurs (x + d) p (subst (λ n. occurs n u ≡ true) (omega arith) o))
  from-part {t} {u} {k} d x p (inr s) = inr (s.0, part-occurs (s.0 + d) p (subst (λ n. occurs n u ≡ true) (omega arith) s.1), s.2)

  at-none : (t : Term) (x : ℕ) → At 0 t x → Depends ts t x
  at-none t x (inl o) = stands (subst (λ n. occurs n t ≡ true) (omega arith) o)
  at-none t x (inr s) = through s.0 (subst (λ n. occurs n t ≡ true) (omega arith) s.1) s.2

  finds : {z : Place} → R z → Found z
  finds (here (met {d = d} {i = i} l e)) = (i - d, e, inl (var-occurs i d l))
  finds (on y (to_part {d = d} l p) r) = let f = finds r in (f.0, f.1, from-part d f.0 p f.2)
  finds (on y (to_type {d = d} {i = i} l k) r) = let f = finds r in (f.0, f.1, inr (i - d, var-occurs i d l, at-none (value_at ts (i - d)) f.0 f.2))

  pub from_walk : (t : Term) → R (t, 0) → DependsOn ts h t
  from_walk t r = let f = finds r in record { var = f.0; wanted = f.1; depends = at-none t f.0 f.2 }

  -- from each place in a term where y stands, where that is so from y itself
  module _ (y : ℕ) (from : (d : ℕ) → R (Var (y + d), d)) where
    enters : (t u : Term) (d k : ℕ) → occurs (y + d) t ≡ true → Part t u k → R (u, d + k) → R (t, d)
    enters t u d k o p r = let l = occurs-reach (y + d) t o in on (u, d + k) (to_part (omega arith) p) r

    same_depth : (t : Term) (d : ℕ) → occurs (y + d) t ≡ true → occurs (y + (d + 0)) t ≡ true
    same_depth t d o = subst (λ n. occurs n t ≡ true) (omega arith) o

    next_depth : (t : Term) (d : ℕ) → occurs (y + d + 1) t ≡ true → occurs (y + (d + 1)) t ≡ true
    next_depth t d o = subst (λ n. occurs n t ≡ true) (omega arith) o

    by_binder : (w a t : Term) (d : ℕ) → occurs (y + d) w ≡ true → Part w a 0 → Part w t 1 → (occurs (y + d) a ≡ true) ⊎ (occurs (y + d + 1) t ≡ true) → (occurs (y + (d + 0)) a ≡ true → R (a, d + 0)) → (occurs (y + (d + 1)) t ≡ true → R (t, d + 1)) → R (w, d)
    by_binder w a t d o p q (inl e) f g = enters w a d 0 o p (f (same_depth a d e))
    by_binder w a t d o p q (inr e) f g = enters w t d 1 o q (g (next_depth t d e))

    by_app : (b : Flag) (t u : Term) (d : ℕ) → occurs (y + d) (App b t u) ≡ true → (occurs (y + d) t ≡ true) ⊎ (occurs (y + d) u ≡ true) → (occurs (y + (d + 0)) t ≡ true → R (t, d + 0)) → (occurs (y + (d + 0)) u ≡ true → R (u, d + 0)) → R (App b t u, d)
    by_app b t u d o (inl e) f g = enters (App b t u) t d 0 o app_fun (f (same_depth t d e))
    by_app b t u d o (inr e) f g = enters (App b t u) u d 0 o app_arg (g (same_depth u d e))

    by_item : (t : Term) (us : Terms) (d : ℕ) → occurs_in (y + d) (And t us) ≡ true → (occurs (y + d) t ≡ true) ⊎ (occurs_in (y + d) us ≡ true) → (occurs (y + (d + 0)) t ≡ true → R (t, d + 0)) → (occurs_in (y + (d + 0)) us ≡ true → R (list us, d + 0)) → R (list (And t us), d)
    by_item t us d o (inl e) f g = enters (list (And t us)) t d 0 (occurs_list (y + d) (And t us) ∙ o) app_fun (f (same_depth t d e))
    by_item t us d o (inr e) f g = enters (list (And t us)) (list us) d 0 (occurs_list (y + d) (And t us) ∙ o) app_arg (g (subst (λ n. occurs_in n us ≡ true) (omega arith) e))

    mutual
      pub comes : (t : Term) (d : ℕ) → occurs (y + d) t ≡ true → R (t, d)
      comes (Var i) d o = subst (λ i. R (Var i, d)) (sym (eqb-true i (y + d) o)) (from d)
      comes (Sort n) d o = absurd cc
      comes (Pi b x a t) d o = by_binder (Pi b x a t) a t d o pi_domain pi_codomain (either (occurs (y + d) a) (occurs (y + d + 1) t) o) (comes a (d + 0)) (comes t (d + 1))
      comes (Lam b x a t) d o = by_binder (Lam b x a t) a t d o lam_domain lam_body (either (occurs (y + d) a) (occurs (y + d + 1) t) o) (comes a (d + 0)) (comes t (d + 1))
      comes (App b t u) d o = by_app b t u d o (either (occurs (y + d) t) (occurs (y + d) u) o) (comes t (d + 0)) (comes u (d + 0))
      comes (Def f) d o = absurd cc
      comes (Fam f) d o = absurd cc
      comes (Con k us) d o = enters (Con k us) (list us) d 0 o con_params (comes_in us (d + 0) (subst (λ n. occurs_in n us ≡ true) (omega arith) o))
      comes (Proj f t) d o = enters (Proj f t) t d 0 o proj_of (comes t (d + 0) (same_depth t d o))
      comes (Meta m us) d o = enters (Meta m us) (list us) d 0 o meta_args (comes_in us (d + 0) (subst (λ n. occurs_in n us ≡ true) (omega arith) o))

      comes_in : (us : Terms) (d : ℕ) → occurs_in (y + d) us ≡ true → R (list us, d)
      comes_in End d o = absurd cc
      comes_in (And t us) d o = by_item t us d o (either (occurs (y + d) t) (occurs_in (y + d) us) o) (comes t (d + 0)) (comes_in us (d + 0))

  at_zero : (t : Term) (y : ℕ) → occurs y t ≡ true → occurs (y + 0) t ≡ true
  at_zero t y o = subst (λ n. occurs n t ≡ true) (omega arith) o

  goal_at : (x d : ℕ) → h x ≡ true → R (Var (x + d), d)
  goal_at x d e = let s : x + d - d ≡ x = omega arith in here (met (omega arith) (ap h s ∙ e))

  type_at : (y d : ℕ) → y < length ts → R (value_at ts y, 0) → R (Var (y + d), d)
  type_at y d l r = let s : y + d - d ≡ y = omega arith in
      on (value_at ts (y + d - d), 0) (to_type (omega arith) (omega (arith, s, l))) (subst (λ i. R (value_at ts i, 0)) (sym s) r)

  value_beyond : (r : List Term) (i : ℕ) → length r ≤ i → value_at r i ≡ Sort 0
  value_beyond [] i l = refl
  value_beyond (t ∷ r) zero l = absurd (omega arith)
  value_beyond (t ∷ r) (suc i) l = value_beyond r i (omega arith)

  no_sort : {x n : ℕ} → Depends ts (Sort n) x → ⊥
  no_sort (stands o) = cc
  no_sort (through y o d) = cc

  depends_below : (y x : ℕ) → Depends ts (value_at ts y) x → y < length ts
  depends_below y x d = by (ltb y (length ts)) refl
    where
      by : (b : Bool) → ltb y (length ts) ≡ b → y < length ts
      by true e = grind (arith, common_steps)
      by false e = let l : length ts ≤ y = grind (arith, common_steps) in absurd (no_sort (subst (λ t. Depends ts t x) (value_beyond ts y l) d))

  to_walk_at : {t : Term} {x : ℕ} → h x ≡ true → Depends ts t x → R (t, 0)
  to_walk_at {t} {x} e (stands o) = comes x (λ d. goal_at x d e) t 0 (at_zero t x o)
  to_walk_at {t} {x} e (through y o d) = let r = to_walk_at e d in comes y (λ k. type_at y k (depends_below y x d) r) t 0 (at_zero t y o)

  pub to_walk : (t : Term) → DependsOn ts h t → R (t, 0)
  to_walk t d = to_walk_at d.wanted d.depends
