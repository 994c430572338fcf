-- Whether two terms are the same with acyclic solutions put in: it can be told, and any full solutions tell it.
use Rattle.std.specs.Prelude.{◌≡◌, ◌≢◌, ◌⊎◌, ℕ, ◌<◌, Option, Some, None, refl, zero, suc}
use Rattle.std.proofs.Common.{ap, sym, ◌∙◌, arith, inl, inr}
use Rattle.std.proofs.lemmas.Bool.{cases_eq}
use base.Stored.{Gv, gnil, gnum, gcons}
use Rattle.core_rules.specs.Term.{Term, nameless, IsSameTerm}
use Rattle.core_rules.specs.Substitution.{replace}
use Rattle.core_rules.specs.Stored.{coded_term}
use Rattle.core_rules.specs.InScope.{IsAcyclic}
use Rattle.core_rules.specs.Heads.{Solutions}
use Rattle.core_rules.specs.Bounded.{full, AreSame}
use Rattle.core_rules.specs.BoundedLaws.{no_solutions, IsFull}
use Rattle.core_rules.proofs.Heads.FullSolutions.{weaker, replace_alike, full_is_full, nothing_to_replace}

code_or : (x y : Gv) → (x ≡ y) ⊎ (x ≢ y)
code_or gnil gnil = inl refl
code_or (gnum n) (gnum m) = by_number (cases_eq n m)
  where
    by_number : (n ≡ m) ⊎ (n ≢ m) → (gnum n ≡ gnum m) ⊎ (gnum n ≢ gnum m)
    by_number (inl e) = inl (ap gnum e)
    by_number (inr k) = inr (λ e. k (cc))
code_or (gcons a b) (gcons c d) = by_parts (code_or a c) (code_or b d)
  where
    by_parts : (a ≡ c) ⊎ (a ≢ c) → (b ≡ d) ⊎ (b ≢ d) → (gcons a b ≡ gcons c d) ⊎ (gcons a b ≢ gcons c d)
    by_parts (inl e) (inl k) = inl (cc (e, k))
    by_parts (inr n) k = inr (λ e. n (cc))
    by_parts (inl e) (inr n) = inr (λ e. n (cc))
code_or _ _ = inr (λ e. cc)

term_or : (t u : Term) → (t ≡ u) ⊎ (t ≢ u)
term_or t u = by_code (code_or (coded_term.code t) (coded_term.code u))
  where
    by_code : (coded_term.code t ≡ coded_term.code u) ⊎ (coded_term.code t ≢ coded_term.code u) → (t ≡ u) ⊎ (t ≢ u)
    by_code (inl e) = inl (coded_term.inj t u e)
    by_code (inr n) = inr (λ e. n (ap coded_term.code e))

module _ (s : Solutions) (a : IsAcyclic s) (f h : Solutions) (x : IsFull s f) (y : IsFull s h) where
  pub full_one_below : (n m : ℕ) → a.rank m < n → f m ≡ h m
  full_one_below zero m l = absurd (omega arith)
  full_one_below (suc n) m l = by_solution (λ k j. full_one_below n k (omega (arith, j, l))) (s m) refl
    where
      by_solution : ((k : ℕ) → a.rank k < a.rank m → f k ≡ h k) → (o : Option Term) → s m ≡ o → f m ≡ h m
      by_solution r None e = x.unsolved m e ∙ sym (y.unsolved m e)
      by_solution r (Some t) e =
          x.solved m t e ∙ (ap Some (replace_alike f h t (weaker (λ k. a.rank k < a.rank m) (λ k. f k ≡ h k) r t (a.falls m t e))) ∙ sym (y.solved m t e))

  -- acyclic solutions have one set of full solutions
  pub full_one : (t : Term) → replace f t ≡ replace h t
  full_one t = λ i. replace (λ m. full_one_below (suc (a.rank m)) m (omega arith) i) t

module _ (s : Solutions) (f : Solutions) (x : IsFull s f) (t u : Term) where
  pub same_replaced : AreSame s t u → IsSameTerm (replace f t) (replace f u)
  same_replaced h =
      let e = full_one s h.acyclic f (full s h.acyclic) x (full_is_full s h.acyclic) in
      ap nameless (e t) ∙ (h.same ∙ sym (ap nameless (e u)))

  pub are_same_by : IsAcyclic s → IsSameTerm (replace f t) (replace f u) → AreSame s t u
  are_same_by a h =
      let e = full_one s a f (full s a) x (full_is_full s a) in
      record { acyclic = a; same = sym (ap nameless (e t)) ∙ (h ∙ ap nameless (e u)) }

pub are_same_or : (s : Solutions) → IsAcyclic s → (t u : Term) → AreSame s t u ⊎ (AreSame s t u → ⊥)
are_same_or s a t u = by_terms (term_or (nameless (replace (full s a) t)) (nameless (replace (full s a) u)))
  where
    by_terms : IsSameTerm (replace (full s a) t) (replace (full s a) u) ⊎ (IsSameTerm (replace (full s a) t) (replace (full s a) u) → ⊥) → AreSame s t u ⊎ (AreSame s t u → ⊥)
    by_terms (inl e) = inl (record { acyclic = a; same = e })
    by_terms (inr n) = inr (λ h. n (same_replaced s (full s a) (full_is_full s a) t u h))

pub nothing_acyclic : IsAcyclic no_solutions
nothing_acyclic = record { rank = λ m. 0; falls = λ m t e. absurd cc }

-- terms are the same with the solutions put in exactly where their images are
module _ (s f : Solutions) (x : IsFull s f) (a : IsAcyclic s) (t u : Term) where
  pub same_image : AreSame s t u → AreSame no_solutions (replace f t) (replace f u)
  same_image h =
      let e = nothing_to_replace.1 in
      are_same_by no_solutions no_solutions nothing_to_replace.0 (replace f t) (replace f u) nothing_acyclic
      (ap nameless (e (replace f t)) ∙ (same_replaced s f x t u h ∙ sym (ap nameless (e (replace f u)))))

  pub same_image_back : AreSame no_solutions (replace f t) (replace f u) → AreSame s t u
  same_image_back h =
      let e = nothing_to_replace.1 in
      let k = same_replaced no_solutions no_solutions nothing_to_replace.0 (replace f t) (replace f u) h in
      are_same_by s f x t u a (sym (ap nameless (e (replace f t))) ∙ (k ∙ ap nameless (e (replace f u))))
