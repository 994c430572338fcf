-- It can be told whether two branches are the same.
use Rattle.std.specs.Prelude.{◌≡◌, ◌⊎◌, ℕ, List, [], ◌∷◌, refl}
use Rattle.std.proofs.Common.{ap, sym, ◌∙◌, inl, inr}
use Rattle.std.proofs.lemmas.Bool.{cases_eq}
use Rattle.core_rules.specs.declared.Flag.{Flag}
use Rattle.core_rules.specs.declared.Flag.TheVariants.{Explicit, Implicit}
use Rattle.core_rules.specs.Term.{Term, nameless, IsSameTerm}
use Rattle.core_rules.specs.Signature.{Telescope, Branch}
use Rattle.core_rules.specs.Bounded.{AreSame}
use Rattle.core_rules.specs.BoundedLaws.{no_solutions}
use Rattle.core_rules.specs.NameLaws.{AreSameTerms}
use Rattle.core_rules.proofs.Heads.FullSolutions.{nothing_to_replace}
use Rattle.core_rules.proofs.Heads.Same.{are_same_or, are_same_by, same_replaced, nothing_acyclic}
use Rattle.kernel_rules.specs.TreeReading.{AreSameEntries, IsSameBranch}

abbrev pub OrNot : Type 0 → Type 0
OrNot P = P ⊎ (P → ⊥)

both : {P Q R : Type 0} → OrNot P → OrNot Q → (P → Q → R) → (R → P) → (R → Q) → OrNot R
both (inl p) (inl q) f g h = inl (f p q)
both (inl p) (inr q) f g h = inr (λ r. q (h r))
both (inr p) q f g h = inr (λ r. p (g r))

two_of : {P Q : Type 0} → OrNot P → OrNot Q → OrNot (P × Q)
two_of {P} {Q} p q = both {R = P × Q} p q (λ a b. (a, b)) (λ r. r.0) (λ r. r.1)

numbers_or : (is js : List ℕ) → OrNot (is ≡ js)
numbers_or [] [] = inl refl
numbers_or [] (j ∷ js) = inr (λ e. absurd cc)
numbers_or (i ∷ is) [] = inr (λ e. absurd cc)
numbers_or (i ∷ is) (j ∷ js) = both (cases_eq i j) (numbers_or is js) (λ p q. cc (p, q)) (λ e. cc e) (λ e. cc e)

flag_or : (b c : Flag) → OrNot (b ≡ c)
flag_or Explicit Explicit = inl refl
flag_or Implicit Implicit = inl refl
flag_or Explicit Implicit = inr (λ e. absurd cc)
flag_or Implicit Explicit = inr (λ e. absurd cc)

-- by the law of conversion, without solutions
term_or : (t u : Term) → OrNot (IsSameTerm t u)
term_or t u = by_solutions (are_same_or no_solutions nothing_acyclic t u)
  where
    by_solutions : OrNot (AreSame no_solutions t u) → OrNot (IsSameTerm t u)
    by_solutions (inl h) = inl (sym (ap nameless (nothing_to_replace.1 t)) ∙ (same_replaced no_solutions no_solutions nothing_to_replace.0 t u h ∙ ap nameless (nothing_to_replace.1 u)))
    by_solutions (inr n) = inr (λ e. n (are_same_by no_solutions no_solutions nothing_to_replace.0 t u nothing_acyclic (ap nameless (nothing_to_replace.1 t) ∙ (e ∙ sym (ap nameless (nothing_to_replace.1 u))))))

entries_or : (es fs : Telescope Term) → OrNot (AreSameEntries es fs)
entries_or [] [] = inl tt
entries_or [] (f ∷ fs) = inr (λ h. h)
entries_or (e ∷ es) [] = inr (λ h. h)
entries_or (e ∷ es) (f ∷ fs) =
    both (flag_or e.flag f.flag) (two_of (term_or e.ty f.ty) (entries_or es fs))
    (λ p q. (p, q.0, q.1)) (λ r. r.0) (λ r. (r.1, r.2))

terms_or : (ts us : List Term) → OrNot (AreSameTerms ts us)
terms_or [] [] = inl tt
terms_or [] (u ∷ us) = inr (λ h. h)
terms_or (t ∷ ts) [] = inr (λ h. h)
terms_or (t ∷ ts) (u ∷ us) = two_of (term_or t u) (terms_or ts us)

pub branch_or : (b b' : Branch Term) → OrNot (IsSameBranch b b')
branch_or b b' =
    both (entries_or b.context b'.context) (two_of (terms_or b.values b'.values) (numbers_or b.keep b'.keep))
    (λ p q. record { context = p; values = q.0; keep = q.1 }) (λ r. r.context) (λ r. (r.values, r.keep))
