-- The unifier with solutions of metavariables has one answer to each question.
use Rattle.std.proofs.Common.{refl, sym, ◌∙◌, ap}
use Rattle.std.specs.Prelude.{ℕ, map}
use Rattle.core_rules.specs.Term.{Term}
use Rattle.core_rules.specs.Substitution.{replace}
use Rattle.core_rules.specs.Signature.{Signature}
use Rattle.core_rules.specs.Mapped.{signature_map, telescope_map}
use Rattle.core_rules.specs.Heads.{Solutions}
use Rattle.core_rules.specs.Unification.{eq, begin}
use Rattle.unify_rules.specs.Answered.{unified_of}
use Rattle.unify_rules.proofs.Ends.{unify_stands}
use Rattle.unify_rules.proofs.OneOutcome.{unify_one}
use Rattle.lhs_rules.specs.Patterns.{AnswersWith}
use Rattle.lhs_rules.proofs.Comes.{AlwaysAnswers, AnswersOnce}

module _ (g : Signature Term) (f : Solutions) (fuel depth : ℕ) where
  pub always_answers : AlwaysAnswers (AnswersWith g f fuel depth)
  always_answers c es =
      let h = unify_stands (signature_map (replace f) g) fuel depth (begin (telescope_map (replace f) c) (map (λ e. eq (replace f e.left) (replace f e.right)) es)) in
      (unified_of (telescope_map (replace f) c) h.0, record { outcome = h.0; is = (h.1, h.2); says = refl })

  pub answers_once : AnswersOnce (AnswersWith g f fuel depth)
  answers_once c es v w x y =
      x.says ∙ ap (unified_of (telescope_map (replace f) c)) (unify_one (signature_map (replace f) g) fuel depth x.is.1 y.is.1).0 ∙ sym y.says
