-- A solved metavariable at the head of a term is replaced.
use Rattle.std.specs.Prelude.{◌≡◌, ℕ, ◌<◌, List, [], ◌∷◌, map, reverse, Option, Some, None, option_map, refl}
use Rattle.std.proofs.Common.{sym, ap, ap₂, ◌∙◌, subst, subst₂}
use Rattle.core_rules.specs.Term.{Term, Terms, Meta, from_list, to_list, env_of}
use Rattle.core_rules.specs.Substitution.{under, put_solution}
use Rattle.core_rules.specs.InScope.{IsAcyclic}
use Rattle.core_rules.specs.Heads.{Solutions}
use Rattle.term_pool.specs.Pool.{Pool, tree, args, Extends}
use Rattle.term_pool.specs.Growth.{Extends-tree}
use Rattle.core_terms.specs.Solutions.{AreIn, solved_in}
use Rattle.el_base.proofs.Lists.{map-reverse}
use Rattle.weak_head.specs.Pending.{Comes, here, by}
use Rattle.weak_head.proofs.Ranks.{AreAmong}
use Rattle.weak_head.proofs.Hops.{hops, hops_fall}

to_from : (xs : List Term) → to_list (from_list xs) ≡ xs
to_from [] = refl
to_from (x ∷ xs) = ap (λ l. x ∷ l) (to_from xs)

pub env_from : (p : Pool) (ids vs : List ℕ) (ts : Terms) → vs ≡ reverse ids → from_list (map (tree p) ids) ≡ ts → map (tree p) vs ≡ env_of ts
env_from p ids vs ts e h = ap (map (tree p)) e ∙ map-reverse (tree p) ids ∙ ap reverse (sym (to_from (map (tree p) ids)) ∙ ap to_list h)

some_tree : (p : Pool) (m : ℕ) (t : Term) (f : ℕ → Option ℕ) (o : Option ℕ) → f m ≡ o → option_map (tree p) o ≡ Some t → (i : ℕ) × (f m ≡ Some i) × (tree p i ≡ t)
some_tree p m t f None e h = absurd cc
some_tree p m t f (Some i) e h = (i, e, cc h)

-- solutions are among the terms of their pool
pub among : (p : Pool) (f : ℕ → Option ℕ) → AreIn p f → AreAmong p.trees (solved_in p f)
among p f h = record { at = λ m t e. let w = some_tree p m t f (f m) refl e in (w.0, h.within m w.0 w.1, w.2) }

comes_on : {s : Solutions} {t u : Term} (m : ℕ) (ts : Terms) (v : Term) → Comes s t u → u ≡ Meta m ts → s m ≡ Some v → Comes s t (put_solution m ts (Some v))
comes_on {s} m ts v here e h = subst (λ x. Comes s x (put_solution m ts (Some v))) (sym e) (by m ts v (put_solution m ts (Some v)) h here)
comes_on m ts v (by n us x u i c) e h = by n us x (put_solution m ts (Some v)) i (comes_on m ts v c e h)

-- one turn of the loop: at is a metavariable that i solves, and next stands for the term in which it is replaced
module _ (p q r : Pool) (f : ℕ → Option ℕ) (at m a i next : ℕ) (vs : List ℕ) (g : Extends p q) (h : AreIn p f) (e : f m ≡ Some i) (is : tree q at ≡ Meta m (args q a))
    (env : map (tree q) vs ≡ env_of (args q a)) (made : tree r next ≡ under (map (tree q) vs) (tree q i)) where
  replaced_by : tree r next ≡ put_solution m (args q a) (Some (tree p i))
  replaced_by = made ∙ ap₂ under env (Extends-tree i g (h.within m i e))

  solved : solved_in p f m ≡ Some (tree p i)
  solved = ap (option_map (tree p)) e

  pub comes_next : (t : Term) → Comes (solved_in p f) t (tree q at) → Comes (solved_in p f) t (tree r next)
  comes_next t c = subst (Comes (solved_in p f) t) (sym replaced_by) (comes_on m (args q a) (tree p i) c is solved)

  pub falls_next : IsAcyclic (solved_in p f) → hops (solved_in p f) p.trees (tree r next) < hops (solved_in p f) p.trees (tree q at)
  falls_next x = subst₂ (λ u v. hops (solved_in p f) p.trees u < hops (solved_in p f) p.trees v) (sym replaced_by) (sym is) (hops_fall (solved_in p f) p.trees (among p f h) x m (args q a) (tree p i) solved)
