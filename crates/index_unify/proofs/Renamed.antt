-- A term in the context of other variables, by an environment of the variables that it reaches.
use Rattle.std.specs.Prelude.{◌≡◌, ℕ, ◌+◌, ◌-◌, ◌<◌, ◌≤◌, Bool, true, false, ltb, cond, List, [], ◌∷◌, ◌++◌, length, map, Result, Ok, Err, OnOk, refl, zero, suc}
use Rattle.std.proofs.Common.{ap, ap₂, ◌∙◌, arith}
use Rattle.std.proofs.lemmas.Grind.{common_steps}
use Rattle.std.proofs.lemmas.List.{map-append}
use Rattle.core_rules.specs.Term.{Term, Terms, Var, Sort, Pi, Lam, App, Def, Fam, Con, Proj, Meta, End, And}
use Rattle.core_rules.specs.Signature.{numbers}
use Rattle.core_rules.specs.Substitution.{over, over_all, shift, value_at, env_var, under}
use Rattle.unify_rules.specs.Joined.{place_in, rename_var, rename}
use Rattle.term_pool.specs.Pool.{Pool, tree, Extends, StandsFor}
use Rattle.term_pool.specs.Reach.{reach, reach_all}
use Rattle.index_unify.specs.Renaming.{IsRenaming}
use Rattle.index_unify.proofs.Grown.{IdStands, id_in, ids, grown, pushed, Made}

-- two changes that agree at the first n variables, at a term that reaches no further
module _ (f h : ℕ → ℕ → Term) (n : ℕ) (same : (d i : ℕ) → i < d + n → f d i ≡ h d i) where
  mutual
    over-alike : (d : ℕ) (t : Term) → reach t ≤ d + n → over f d t ≡ over h d t
    over-alike d (Var i) l = same d i (omega arith)
    over-alike d (Sort k) l = refl
    over-alike d (Pi b x a t) l = ap₂ (Pi b x) (over-alike d a (omega arith)) (over-alike (d + 1) t (omega arith))
    over-alike d (Lam b x a t) l = ap₂ (Lam b x) (over-alike d a (omega arith)) (over-alike (d + 1) t (omega arith))
    over-alike d (App b t u) l = ap₂ (App b) (over-alike d t (omega arith)) (over-alike d u (omega arith))
    over-alike d (Def k) l = refl
    over-alike d (Fam k) l = refl
    over-alike d (Con k ts) l = ap (Con k) (over_all-alike d ts l)
    over-alike d (Proj k t) l = ap (Proj k) (over-alike d t l)
    over-alike d (Meta m ts) l = ap (Meta m) (over_all-alike d ts l)

    over_all-alike : (d : ℕ) (ts : Terms) → reach_all ts ≤ d + n → over_all f d ts ≡ over_all h d ts
    over_all-alike d End l = refl
    over_all-alike d (And t ts) l = ap₂ And (over-alike d t (omega arith)) (over_all-alike d ts (omega arith))

raised : (p d : ℕ) → cond (ltb p (0 + 0)) p (p + d) ≡ p + d
raised p d = grind (arith, common_steps)

module _ (ks : List ℕ) (r : List Term) (n : ℕ) (at : (i : ℕ) → i < n → value_at r i ≡ Var (place_in ks i)) where
  var_is : (d i : ℕ) → i < d + n → env_var r d i ≡ rename_var ks d i
  var_is d i l = by (ltb i d) refl
    where
      by : (b : Bool) → ltb i d ≡ b → cond b (Var i) (shift (value_at r (i - d)) 0 d) ≡ cond b (Var i) (Var (place_in ks (i - d) + d))
      by true e = refl
      by false e = let g : d ≤ i = grind (arith, common_steps) in ap (λ t. shift t 0 d) (at (i - d) (omega arith)) ∙ ap Var (raised (place_in ks (i - d)) d)

  under_is : (t : Term) → reach t ≤ n → under r t ≡ rename ks t
  under_is t l = over-alike (env_var r) (rename_var ks) n var_is 0 t (omega arith)

number_at : (g : ℕ → Term) (k n i : ℕ) → i < n → value_at (map g (numbers k n)) i ≡ g (k + i)
number_at g k zero i l = absurd (omega arith)
number_at g k (suc n) zero l = ap g (omega arith)
number_at g k (suc n) (suc i) l = number_at g (k + 1) n i (omega arith) ∙ ap g (omega arith)

numbers_push : (k n : ℕ) → numbers k (suc n) ≡ numbers k n ++ (k + n) ∷ []
numbers_push k zero = ap (λ i. i ∷ []) (omega arith)
numbers_push k (suc n) = ap (λ r. k ∷ r) (numbers_push (k + 1) n ∙ ap (λ i. numbers (k + 1) n ++ i ∷ []) (omega arith))

abbrev place_term : List ℕ → ℕ → Term
place_term ks i = Var (place_in ks i)

as_made : (p : Pool) (ks is : List ℕ) → IsRenaming p ks is → Made IdStands id_in p is (map (place_term ks) (numbers 0 (length is)))
as_made p ks is h = record { within = h.within; is = h.is }

module _ (p q : Pool) (g : Extends p q) (ks is : List ℕ) where
  pub renaming_grown : IsRenaming p ks is → IsRenaming q ks is
  renaming_grown h = let m = grown IdStands id_in ids p q g is (map (place_term ks) (numbers 0 (length is))) (as_made p ks is h) in record { within = m.within; is = m.is }

  longer : (js : List ℕ) (i : ℕ) → js ≡ is ++ i ∷ [] → length js ≡ suc (length is)
  longer js i e = grind (arith, common_steps)

  pub renaming_more : (js : List ℕ) (i : ℕ) → IsRenaming p ks is → js ≡ is ++ i ∷ [] → StandsFor q i (Var (place_in ks (length is))) → IsRenaming q ks js
  renaming_more js i h e s =
      let all = map-append (place_term ks) (numbers 0 (length is)) ((0 + length is) ∷ []) in
      let last : 0 + length is ≡ length is = omega arith in
      let us = ap (λ n. map (place_term ks) (numbers 0 n)) (longer js i e) ∙ (ap (map (place_term ks)) (numbers_push 0 (length is)) ∙ (all ∙ ap (λ n. map (place_term ks) (numbers 0 (length is)) ++ place_term ks n ∷ []) last)) in
      let m = pushed IdStands id_in ids p q g is js (map (place_term ks) (numbers 0 (length is))) (map (place_term ks) (numbers 0 (length js))) i (place_term ks (length is)) (as_made p ks is h) s.within s.is e us in
      record { within = m.within; is = m.is }

-- the terms of the first variables are an environment for a term that reaches no further
pub renamed : (p : Pool) (ks is : List ℕ) (t : Term) → IsRenaming p ks is → reach t ≤ length is → under (map (tree p) is) t ≡ rename ks t
renamed p ks is t h l =
    under_is ks (map (tree p) is) (length is)
    (λ i k. ap (λ r. value_at r i) h.is ∙ (number_at (place_term ks) 0 (length is) i k ∙ ap (place_term ks) (omega arith))) t l

pub on_ok : {T E P : Type 0} (r : Result T E) → P → OnOk r P
on_ok (Ok x) p = p
on_ok (Err e) p = tt
