-- The product's unifier has one answer to each question.
use Rattle.std.proofs.Common.{◌≡◌, ℕ, List, refl, sym, ap, ◌∙◌}
use Rattle.core_rules.specs.Term.{Term}
use Rattle.core_rules.specs.Signature.{Context, Signature}
use Rattle.core_rules.specs.Unification.{Equation, begin}
use Rattle.core_rules.specs.UnifierAnswers.{HasOneAnswer}
use Rattle.kernel_rules.proofs.DeclOutcome.{AnswersAll}
use Rattle.unify_rules.specs.Unifier.{Outcome, Unify}
use Rattle.unify_rules.specs.Answered.{unified_of}
use Rattle.unify_rules.proofs.OneOutcome.{unify_one}
use Rattle.unify_rules.proofs.Ends.{unify_stands}
use Rattle.tree_kernel.specs.Reading.{UnifiesAs}

module _ (g : Signature Term) (fuel depth : ℕ) where
  same_outcome : (c : Context Term) (es : List Equation) (o p : Outcome) (n m : ℕ) → Unify g fuel depth (begin c es) o n → Unify g fuel depth (begin c es) p m
      → o ≡ p
  same_outcome c es o p n m x y = (unify_one g fuel depth x y).0

  pub one_answer : HasOneAnswer (UnifiesAs g fuel depth)
  one_answer c es v w x y = x.3 ∙ (ap (unified_of c) (same_outcome c es x.0 y.0 x.1 y.1 x.2 y.2) ∙ sym y.3)

  pub answers_all : AnswersAll (UnifiesAs g fuel depth)
  answers_all c es = let u = unify_stands g fuel depth (begin c es) in (unified_of c u.0, (u.0, u.1, u.2, refl))
