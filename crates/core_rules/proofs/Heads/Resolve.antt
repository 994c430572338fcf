-- Where solutions are acyclic, each term has one with the same head forms whose head is no solved metavariable.
use Rattle.std.specs.Prelude.{◌≡◌, ℕ, ◌-◌, ltb, false, ◌<◌, List, [], ◌∷◌, ◌++◌, reverse, refl, Option, Some, None, zero, suc}
use Rattle.std.specs.List.{AllByRecursion}
use Rattle.std.proofs.Common.{sym, ◌∙◌, arith, subst as transport}
use Rattle.std.proofs.lemmas.Grind.{common_steps}
use Rattle.std.proofs.lemmas.List.{reverse-append}
use Rattle.core_rules.specs.Term.{Term, Terms, Var, Sort, Pi, Lam, App, Def, Fam, Con, Proj, Meta, End, And, to_list, env_of, AllMetas, AllMetasIn}
use Rattle.core_rules.specs.Substitution.{over_all, under, env_var, value_at, put_solution, replace}
use Rattle.core_rules.specs.Signature.{Signature}
use Rattle.core_rules.specs.Elimination.{Elim}
use Rattle.core_rules.specs.InScope.{IsAcyclic}
use Rattle.core_rules.specs.Heads.{Solutions, Answer, Heads, replaced}
use Rattle.core_rules.specs.Steps as M
use Rattle.core_rules.specs.Steps.{Makes}
use Rattle.core_rules.specs.BoundedLaws.{IsFull}
use Rattle.core_rules.proofs.Substitution.Lifted.{shift_none}
use Rattle.core_rules.proofs.Heads.Replaced.{put_image}

-- the term is not a solved metavariable at arguments
abbrev pub NotSolved : Solutions → Term → Type 0
NotSolved s (Meta m ts) = s m ≡ None
NotSolved s _ = Unit {0}

under_variable : (r : List Term) (i : ℕ) → under r (Var i) ≡ value_at r i
under_variable r i =
    let t : ltb i 0 ≡ false = grind (arith, common_steps) in
    let k : i - 0 ≡ i = omega arith in
    rw (t, k) (shift_none (value_at r i) 0)

module _ (g : Signature Term) (s f : Solutions) where
  pub record Resolved (t : Term) : Type 0 where
    pub term : Term
    pub not_solved : NotSolved s term
    pub same : replace f term ≡ replace f t
    pub heads : (es : List Elim) (w : Answer) (n : ℕ) → Heads g s term es w n → Heads g s t es w n
    pub makes : (es : List Elim) (n : ℕ) → Makes g s term es n → Makes g s t es n

  itself : (t : Term) → NotSolved s t → Resolved t
  itself t p = record { term = t; not_solved = p; same = refl; heads = λ es w n d. d; makes = λ es n d. d }

  resolved_join : (ts us : List Term) → AllByRecursion Resolved ts → AllByRecursion Resolved us → AllByRecursion Resolved (ts ++ us)
  resolved_join [] us p q = q
  resolved_join (t ∷ ts) us p q = (p.0, resolved_join ts us p.1 q)

  resolved_reverse : (ts : List Term) → AllByRecursion Resolved ts → AllByRecursion Resolved (reverse ts)
  resolved_reverse [] p = tt
  resolved_reverse (t ∷ ts) p = transport (AllByRecursion Resolved) (sym (reverse-append (t ∷ []) ts)) (resolved_join (reverse ts) (t ∷ []) (resolved_reverse ts p.1) (p.0, tt))

  resolved_value : (ts : List Term) (i : ℕ) → AllByRecursion Resolved ts → Resolved (value_at ts i)
  resolved_value [] i p = itself (Sort 0) tt
  resolved_value (t ∷ ts) zero p = p.0
  resolved_value (t ∷ ts) (suc i) p = resolved_value ts i p.1

  module _ (x : IsFull s f) where
    put_resolved : (m : ℕ) (ts : Terms) (t : Term) → s m ≡ Some t → Resolved (put_solution m ts (Some t)) → Resolved (Meta m ts)
    put_resolved m ts t e r = record {
      term = r.term;
      not_solved = r.not_solved;
      same = r.same ∙ put_image f g s x m ts t e;
      heads = λ es w n d. replaced e (r.heads es w n d);
      makes = λ es n d. M.replaced e (r.makes es n d);
    }

    -- a term of which every metavariable has a rank below b, in an environment of resolved values; the solutions of these metavariables are resolved in each such environment
    module _ (rank : ℕ → ℕ) (b : ℕ) (rec : (m : ℕ) (t : Term) → rank m < b → s m ≡ Some t → (r : List Term) → AllByRecursion Resolved r → Resolved (under r t)) (r : List Term) (p : AllByRecursion Resolved r) where
      by_solution : (m : ℕ) (ts : Terms) (o : Option Term) → s m ≡ o → rank m < b → AllByRecursion Resolved (to_list ts) → Resolved (Meta m ts)
      by_solution m ts None e h q = itself (Meta m ts) e
      by_solution m ts (Some t) e h q = put_resolved m ts t e (rec m t h e (env_of ts) (resolved_reverse (to_list ts) q))

      mutual
        resolve_under : (t : Term) → AllMetas (λ k. rank k < b) t → Resolved (under r t)
        resolve_under (Var i) h = transport Resolved (sym (under_variable r i)) (resolved_value r i p)
        resolve_under (Meta m ts) h = by_solution m (over_all (env_var r) 0 ts) (s m) refl h.0 (resolve_all ts h.1)
        resolve_under (Sort n) h = itself (Sort n) tt
        resolve_under (Pi c x a t) h = itself (under r (Pi c x a t)) tt
        resolve_under (Lam c x a t) h = itself (under r (Lam c x a t)) tt
        resolve_under (App c t u) h = itself (under r (App c t u)) tt
        resolve_under (Def i) h = itself (Def i) tt
        resolve_under (Fam i) h = itself (Fam i) tt
        resolve_under (Con i ts) h = itself (under r (Con i ts)) tt
        resolve_under (Proj i t) h = itself (under r (Proj i t)) tt

        resolve_all : (ts : Terms) → AllMetasIn (λ k. rank k < b) ts → AllByRecursion Resolved (to_list (over_all (env_var r) 0 ts))
        resolve_all End h = tt
        resolve_all (And t ts) h = (resolve_under t h.0, resolve_all ts h.1)

    module _ (a : IsAcyclic s) where
      resolve_below : (b m : ℕ) (t : Term) → a.rank m < b → s m ≡ Some t → (r : List Term) → AllByRecursion Resolved r → Resolved (under r t)
      resolve_below zero m t h e r p = absurd (omega arith)
      resolve_below (suc b) m t h e r p =
          resolve_under a.rank (a.rank m) (λ k u j i q o. resolve_below b k u (omega (arith, h, j)) i q o) r p t (a.falls m t e)

      at_solution : (m : ℕ) (ts : Terms) (o : Option Term) → s m ≡ o → AllByRecursion Resolved (to_list ts) → Resolved (Meta m ts)
      at_solution m ts None e q = itself (Meta m ts) e
      at_solution m ts (Some t) e q = put_resolved m ts t e (resolve_below (suc (a.rank m)) m t (omega arith) e (env_of ts) (resolved_reverse (to_list ts) q))

      mutual
        pub resolve : (t : Term) → Resolved t
        resolve (Meta m ts) = at_solution m ts (s m) refl (resolve_list ts)
        resolve (Var i) = itself (Var i) tt
        resolve (Sort n) = itself (Sort n) tt
        resolve (Pi c x a t) = itself (Pi c x a t) tt
        resolve (Lam c x a t) = itself (Lam c x a t) tt
        resolve (App c t u) = itself (App c t u) tt
        resolve (Def i) = itself (Def i) tt
        resolve (Fam i) = itself (Fam i) tt
        resolve (Con i ts) = itself (Con i ts) tt
        resolve (Proj i t) = itself (Proj i t) tt

        resolve_list : (ts : Terms) → AllByRecursion Resolved (to_list ts)
        resolve_list End = tt
        resolve_list (And t ts) = (resolve t, resolve_list ts)
