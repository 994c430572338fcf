-- What is accepted over a sound signature has its type by the rules, and an accepted family is good.
use Rattle.std.specs.Prelude.{IfOk, Result, Ok, Err}
use Rattle.core_rules.specs.Term.{Term, Sort}
use Rattle.core_rules.specs.Signature.{Context, FamDecl, Signature}
use Rattle.core_rules.specs.InScope.{HasShape}
use Rattle.core_rules.specs.TreeLaws.{IsSound}
use Rattle.core_rules.specs.Typing.{Typing}
use Rattle.core_rules.specs.Derivable.{Derivable, GoodFamily}
use Rattle.term_pool.specs.Pool.{Pool, tree}
use Rattle.std.proofs.Common.{ℕ}
use Rattle.kernel_rules.specs.TermReading.{InferOf, IsTypeOf, CheckOf}
use Rattle.kernel_rules.specs.FamilyReading.{FamilyOf}
use Rattle.kernel_rules.proofs.Sound.{infer_typed, by-check, by-type}
use Rattle.kernel_rules.proofs.Families.{family-good}
use Rattle.core_kernel.specs.declared.error.KernelError.{KernelError}
use Rattle.core_kernel.specs.declared.error.FamilyError.{FamilyError}
use Rattle.core_kernel.specs.Answers.{Answers, AnswersTerm, AnswersFamily}

module _ (g : Signature Term) (fuel depth : ℕ) (c : Context Term) (t : Term) (p : Pool) where
  pub inferred : (r : Result ℕ KernelError) → AnswersTerm p (InferOf g fuel depth c t) r → IfOk r (λ a. IsSound g → Typing g c t (tree p a))
  inferred (Ok a) h = λ s. infer_typed g fuel depth s c t (tree p a) h.1
  inferred (Err e) h = tt

  pub checked : (a : Term) (r : Result (Unit {0}) KernelError) → Answers p (CheckOf g fuel depth c t a) r → IfOk r (λ o. IsSound g → Typing g c t a)
  checked a (Ok o) h = λ s. by-check g fuel depth s c t (InferOf g fuel depth c t) (infer_typed g fuel depth s c t) a h
  checked a (Err e) h = tt

  pub a_type : (r : Result ℕ KernelError) → Answers p (IsTypeOf g fuel depth c t) r → IfOk r (λ n. IsSound g → Typing g c t (Sort n))
  a_type (Ok n) h = λ s. by-type g fuel depth s c t (InferOf g fuel depth c t) (infer_typed g fuel depth s c t) n h
  a_type (Err e) h = tt

pub family : (g : Signature Term) (fuel depth : ℕ) (d : FamDecl Term) (p : Pool) (r : Result (Unit {0}) FamilyError) → HasShape d → AnswersFamily p (FamilyOf g fuel depth d) r → IfOk r (λ o. Derivable g → GoodFamily g d)
family g fuel depth d p (Ok o) s h = λ k. family-good g fuel depth d k s h
family g fuel depth d p (Err e) s h = tt
