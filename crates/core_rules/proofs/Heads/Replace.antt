-- Replacing solved metavariables passes shifts, substitutions and environments.
use Rattle.std.specs.Prelude.{◌≡◌, ℕ, ◌+◌, ◌-◌, Bool, true, false, ltb, eqb, cond, List, ◌∷◌, map, reverse, refl, Option, Some, None}
use Rattle.std.proofs.Common.{ap, sym, ◌∙◌}
use Rattle.std.proofs.Math.ListN.{get_or-map}
use Rattle.core_rules.specs.Term.{Term, Terms, Var, Sort, Pi, Lam, App, Def, Fam, Con, Proj, Meta, End, And, to_list, env_of}
use Rattle.core_rules.specs.Substitution.{over, over_all, shift, shift_var, subst, subst_var, under, env_var, value_at, put_solution, replace, replace_all}
use Rattle.core_rules.specs.Laws.{IsLifted}
use Rattle.core_rules.specs.Heads.{Solutions}
use Rattle.core_rules.proofs.Substitution.Lifted.{over-under}
use Rattle.core_rules.proofs.Spines.{map-reverse, env_of-over}
use Rattle.core_rules.proofs.Substitution.Changes.{shift_lifted, subst_lifted, env_lifted}

to_list-replace_all : (s : Solutions) (ts : Terms) → to_list (replace_all s ts) ≡ map (replace s) (to_list ts)
to_list-replace_all s End = refl
to_list-replace_all s (And t ts) = ap (λ l. replace s t ∷ l) (to_list-replace_all s ts)

pub env_of-replace_all : (s : Solutions) (ts : Terms) → map (replace s) (env_of ts) ≡ env_of (replace_all s ts)
env_of-replace_all s ts = map-reverse (replace s) (to_list ts) ∙ ap reverse (sym (to_list-replace_all s ts))

-- what is put for a metavariable changes where its arguments do
over-put_solution : (f : ℕ → ℕ → Term) (l : IsLifted f) (d m : ℕ) (ts : Terms) (o : Option Term) → over f d (put_solution m ts o) ≡ put_solution m (over_all f d ts) o
over-put_solution f l d m ts None = refl
over-put_solution f l d m ts (Some t) = over-under f l d (env_of ts) t ∙ ap (λ r. under r t) (sym (env_of-over f d ts))

-- replacing after a change of variables is the change of the replaced, where it is so at each variable
module _ (s : Solutions) (f h : ℕ → ℕ → Term) (l : IsLifted h) (e : (d i : ℕ) → replace s (f d i) ≡ h d i) where
  mutual
    replace-over : (d : ℕ) (t : Term) → replace s (over f d t) ≡ over h d (replace s t)
    replace-over d (Var i) = e d i
    replace-over d (Sort n) = refl
    replace-over d (Pi b x a t) = cc (replace-over d a, replace-over (d + 1) t)
    replace-over d (Lam b x a t) = cc (replace-over d a, replace-over (d + 1) t)
    replace-over d (App b t u) = cc (replace-over d t, replace-over d u)
    replace-over d (Def k) = refl
    replace-over d (Fam k) = refl
    replace-over d (Con k ts) = ap (Con k) (replace_all-over d ts)
    replace-over d (Proj k t) = ap (Proj k) (replace-over d t)
    replace-over d (Meta m ts) = ap (λ us. put_solution m us (s m)) (replace_all-over d ts) ∙ sym (over-put_solution h l d m (replace_all s ts) (s m))

    replace_all-over : (d : ℕ) (ts : Terms) → replace_all s (over_all f d ts) ≡ over_all h d (replace_all s ts)
    replace_all-over d End = refl
    replace_all-over d (And t ts) = cc (replace-over d t, replace_all-over d ts)

module _ (s : Solutions) where
  pub replace-shift : (t : Term) (from by : ℕ) → replace s (shift t from by) ≡ shift (replace s t) from by
  replace-shift t from by = replace-over s (shift_var from by) (shift_var from by) (shift_lifted from by) (λ d i. refl) 0 t

  subst_var_replaced : (at : ℕ) (u : Term) (d i : ℕ) → replace s (subst_var at u d i) ≡ subst_var at (replace s u) d i
  subst_var_replaced at u d i = by_test (ltb i (at + d)) (eqb i (at + d))
    where
      by_test : (o p : Bool) → replace s (cond o (Var i) (cond p (shift u 0 d) (Var (i - 1)))) ≡ cond o (Var i) (cond p (shift (replace s u) 0 d) (Var (i - 1)))
      by_test true p = refl
      by_test false true = replace-shift u 0 d
      by_test false false = refl

  pub replace-subst : (t : Term) (at : ℕ) (u : Term) → replace s (subst t at u) ≡ subst (replace s t) at (replace s u)
  replace-subst t at u = replace-over s (subst_var at u) (subst_var at (replace s u)) (subst_lifted at (replace s u)) (subst_var_replaced at u) 0 t

  pub replace-value_at : (r : List Term) (i : ℕ) → replace s (value_at r i) ≡ value_at (map (replace s) r) i
  replace-value_at r i = sym (get_or-map (replace s) r i (Sort 0))

  env_var_replaced : (r : List Term) (d i : ℕ) → replace s (env_var r d i) ≡ env_var (map (replace s) r) d i
  env_var_replaced r d i = by_test (ltb i d)
    where
      by_test : (o : Bool) → replace s (cond o (Var i) (shift (value_at r (i - d)) 0 d)) ≡ cond o (Var i) (shift (value_at (map (replace s) r) (i - d)) 0 d)
      by_test true = refl
      by_test false = replace-shift (value_at r (i - d)) 0 d ∙ ap (λ t. shift t 0 d) (replace-value_at r (i - d))

  pub replace-under : (r : List Term) (t : Term) → replace s (under r t) ≡ under (map (replace s) r) (replace s t)
  replace-under r t = replace-over s (env_var r) (env_var (map (replace s) r)) (env_lifted (map (replace s) r)) (env_var_replaced r) 0 t
