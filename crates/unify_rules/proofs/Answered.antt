-- The unifier's answers are those of a unifier, and there is exactly one to all equations.
use Rattle.std.specs.Prelude.{◌≡◌, ◌⊎◌, ◌<◌, ◌≤◌, ℕ, ◌+◌, List, [], ◌∷◌, length, refl}
use Rattle.std.specs.List.{AllByRecursion}
use Rattle.std.proofs.Common.{ap, sym, ◌∙◌, subst as transport, arith, inl, inr}
use Rattle.std.proofs.lemmas.Bool.{cases_lt}
use Rattle.core_rules.specs.Term.{Term, Terms, Var, Sort, Pi, Lam, App, Def, Fam, Con, Proj, Meta, End, And}
use Rattle.core_rules.specs.InScope.{VarsBelow, AllVarsBelow}
use Rattle.core_rules.specs.Signature.{Context, Branch, Signature}
use Rattle.core_rules.specs.Unification.{Equation, Solution, begin, Refutes}
use Rattle.core_rules.specs.UnifierAnswers.{Unified, UnifiedBy, NeverUnified, StuckAt, IsUnified}
use Rattle.core_rules.specs.BoundedLaws.{ExactlyOne}
use Rattle.core_rules.specs.TreeLaws.{IsSound}
use Rattle.unify_rules.specs.Unifier.{Outcome, Solved, Conflict, Cycle, Stuck, OutOfFuel, OutOfDepth, Unify}
use Rattle.unify_rules.specs.Joined.{branch_of}
use Rattle.unify_rules.specs.UnifierLaws.{EquationBelow}
use Rattle.unify_rules.specs.Answered.{unified_of, EquationsBelow, UnifiesTo, in_scope, out_of_scope, AnswersUnify}
use Rattle.unify_rules.proofs.Members.{Dec}
use Rattle.unify_rules.proofs.Ends.{unify_stands}
use Rattle.unify_rules.proofs.OneOutcome.{unify_one}
use Rattle.unify_rules.proofs.Joining.{solved_joins}
use Rattle.unify_rules.proofs.WithSolutions.{by_steps, refutes}

-- ---- scope can be told

both : {A B : Type 0} → Dec A → Dec B → Dec (A × B)
both (inl a) (inl b) = inl (a, b)
both (inr n) y = inr (λ p. n p.0)
both (inl a) (inr n) = inr (λ p. n p.1)

below_or_not : (i n : ℕ) → Dec (i < n)
below_or_not i n = below (cases_lt i n) where
  below : (i < n) ⊎ (n ≤ i) → Dec (i < n)
  below (inl x) = inl x
  below (inr y) = inr (λ x. omega arith)

mutual
  vars_below_or : (n : ℕ) (t : Term) → Dec (VarsBelow n t)
  vars_below_or n (Var i) = below_or_not i n
  vars_below_or n (Sort l) = inl tt
  vars_below_or n (Pi b x a t) = both (vars_below_or n a) (vars_below_or (n + 1) t)
  vars_below_or n (Lam b x a t) = both (vars_below_or n a) (vars_below_or (n + 1) t)
  vars_below_or n (App b t u) = both (vars_below_or n t) (vars_below_or n u)
  vars_below_or n (Def f) = inl tt
  vars_below_or n (Fam d) = inl tt
  vars_below_or n (Con k ts) = all_below_or n ts
  vars_below_or n (Proj f t) = vars_below_or n t
  vars_below_or n (Meta m ts) = all_below_or n ts

  all_below_or : (n : ℕ) (ts : Terms) → Dec (AllVarsBelow n ts)
  all_below_or n End = inl tt
  all_below_or n (And t ts) = both (vars_below_or n t) (all_below_or n ts)

below_or : (n : ℕ) (es : List Equation) → Dec (AllByRecursion (EquationBelow n) es)
below_or n [] = inl tt
below_or n (e ∷ es) = both (both (vars_below_or n e.left) (vars_below_or n e.right)) (below_or n es)

-- ---- a unifier

module _ (g : Signature Term) (fuel depth : ℕ) (h : IsSound g) (c : Context Term) (es : List Equation) where
  solved : (ss : List Solution) (b : Branch Term) (o : Outcome) (n : ℕ) → EquationsBelow c es → Unify g fuel depth (begin c es) o n → UnifiedBy ss b ≡ unified_of c o → IsUnified g c es ss b
  solved ss b (Solved ts ds) n below d e =
      let s : ss ≡ ds = cc e in
      let q : b ≡ branch_of c ts ds = cc e in
      transport (λ ss. IsUnified g c es ss b) (sym s) (transport (λ b. IsUnified g c es ds b) (sym q) (record {
        solves = record { types = ts; steps = by_steps g fuel depth (begin c es) (Solved ts ds) n h.scope h.typed d };
        joins = solved_joins g fuel depth n c es ts ds below d;
      }))
  solved ss b (Conflict j k) n below d e = absurd cc
  solved ss b (Cycle x) n below d e = absurd cc
  solved ss b (Stuck t u) n below d e = absurd cc
  solved ss b OutOfFuel n below d e = absurd cc
  solved ss b OutOfDepth n below d e = absurd cc

  refuted : (o : Outcome) (n : ℕ) → Unify g fuel depth (begin c es) o n → NeverUnified ≡ unified_of c o → Refutes g c es
  refuted (Conflict j k) n d e = refutes g c es (by_steps g fuel depth (begin c es) (Conflict j k) n h.scope h.typed d)
  refuted (Cycle x) n d e = refutes g c es (by_steps g fuel depth (begin c es) (Cycle x) n h.scope h.typed d)
  refuted (Solved ts ds) n d e = absurd cc
  refuted (Stuck t u) n d e = absurd cc
  refuted OutOfFuel n d e = absurd cc
  refuted OutOfDepth n d e = absurd cc

  unified : (ss : List Solution) (b : Branch Term) (v : Unified) → UnifiesTo g fuel depth c es v → UnifiedBy ss b ≡ v → IsUnified g c es ss b
  unified ss b v (in_scope {o} {n} below d q) e = solved ss b o n below d (e ∙ q)
  unified ss b v (out_of_scope x) e = absurd cc

  never : (v : Unified) → UnifiesTo g fuel depth c es v → NeverUnified ≡ v → Refutes g c es
  never v (in_scope {o} {n} below d q) e = refuted o n d (e ∙ q)
  never v (out_of_scope x) e = absurd cc

pub answers_unify : AnswersUnify
answers_unify g fuel depth h = record {
  unified = λ c es ss b x. unified g fuel depth h c es ss b (UnifiedBy ss b) x refl;
  never = λ c es x. never g fuel depth h c es NeverUnified x refl;
}

-- ---- exactly one

module _ (g : Signature Term) (fuel depth : ℕ) (c : Context Term) (es : List Equation) where
  same_outcome : {o p : Outcome} {n m : ℕ} → Unify g fuel depth (begin c es) o n → Unify g fuel depth (begin c es) p m → o ≡ p
  same_outcome x y = (unify_one g fuel depth x y).0

  same_answer : (v w : Unified) → UnifiesTo g fuel depth c es v → UnifiesTo g fuel depth c es w → v ≡ w
  same_answer v w (in_scope b x e) (in_scope b' y k) = e ∙ (ap (unified_of c) (same_outcome x y) ∙ sym k)
  same_answer v w (in_scope b x e) (out_of_scope n) = absurd (n b)
  same_answer v w (out_of_scope n) (in_scope b x e) = absurd (n b)
  same_answer v w (out_of_scope n) (out_of_scope m) = refl

  an_answer : Dec (EquationsBelow c es) → (v : Unified) × UnifiesTo g fuel depth c es v
  an_answer (inl b) = let u = unify_stands g fuel depth (begin c es) in (unified_of c u.0, in_scope b u.2 refl)
  an_answer (inr n) = (StuckAt (Sort 0) (Sort 0), out_of_scope n)

  pub exactly_one : ExactlyOne (UnifiesTo g fuel depth c es)
  exactly_one = let a = an_answer (below_or (length c) es) in (a.0, a.1, (λ v x. same_answer v a.0 x a.1))
