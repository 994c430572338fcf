-- On which variables a term depends, as a walk through its parts and through the types of its variables.
use Rattle.std.specs.Prelude.{◌≡◌, ℕ, ◌+◌, ◌-◌, ◌<◌, ◌≤◌, eqb, Bool, true, false, List, length, get_or}
use Rattle.core_rules.specs.declared.Flag.{Flag}
use Rattle.core_rules.specs.Term.{Term, Terms, Var, Pi, Lam, App, Con, Proj, Meta}
use Rattle.core_rules.specs.Substitution.{value_at}
use Rattle.core_rules.specs.Unification.{Depends}
use Rattle.term_pool.specs.Lists.{list}
use Rattle.term_pool.specs.Reach.{reach}
use Rattle.index_unify.specs.declared.dependence.Target.{Target}
use Rattle.index_unify.specs.declared.dependence.Target.TheVariants.{One, Marked}
use Rattle.index_unify.specs.Walk.{Place}

-- variable i is one of those that are looked for
abbrev pub is_target : Target → ℕ → Bool
is_target (One x) i = eqb x i
is_target (Marked bs) i = get_or bs.now i false

-- u is a part of t, under so many binders more
pub data Part : Term → Term → ℕ → Type 0 where
  pi_domain : {b : Flag} {x : ℕ} {a t : Term} → Part (Pi b x a t) a 0
  pi_codomain : {b : Flag} {x : ℕ} {a t : Term} → Part (Pi b x a t) t 1
  lam_domain : {b : Flag} {x : ℕ} {a t : Term} → Part (Lam b x a t) a 0
  lam_body : {b : Flag} {x : ℕ} {a t : Term} → Part (Lam b x a t) t 1
  app_fun : {b : Flag} {t u : Term} → Part (App b t u) t 0
  app_arg : {b : Flag} {t u : Term} → Part (App b t u) u 0
  con_params : {k : ℕ} {ts : Terms} → Part (Con k ts) (list ts) 0
  proj_of : {f : ℕ} {t : Term} → Part (Proj f t) t 0
  meta_args : {m : ℕ} {ts : Terms} → Part (Meta m ts) (list ts) 0

-- from a term to its parts, where variables of the context can stand in it; from such a variable to its type
pub data Edge (ts : List Term) : Place → Place → Type 0 where
  to_part : {t u : Term} {d k : ℕ} → d < reach t → Part t u k → Edge ts (t, d) (u, d + k)
  to_type : {d i : ℕ} → d ≤ i → i - d < length ts → Edge ts (Var i, d) (value_at ts (i - d), 0)

-- a variable that is looked for
pub data Goal (h : ℕ → Bool) : Place → Type 0 where
  met : {d i : ℕ} → d ≤ i → h (i - d) ≡ true → Goal h (Var i, d)

-- t depends on a variable that is looked for
pub record DependsOn (ts : List Term) (h : ℕ → Bool) (t : Term) : Type 0 where
  pub var : ℕ
  pub wanted : h var ≡ true
  pub depends : Depends ts t var
