-- What refusals of terms are to the reading of a declaration, and readings one after the other.
use Rattle.std.proofs.Common.{◌≡◌, ap, refl}
use Rattle.term_pool.specs.Pool.{Pool}
use Rattle.kernel_rules.specs.Outcome.{Outcome, Gives, Refuses, Then, goes_on, stops}
use Rattle.kernel_rules.specs.Refusals.{Refusal, DeclRefusal, OfKernel, AfterTerms}
use Rattle.core_kernel.specs.Answers.{RefusedBy}
use Rattle.core_kernel.specs.declared.error.KernelError.{KernelError}
use Rattle.core_kernel.specs.declared.error.KernelError.TheVariants as E
use Rattle.core_kernel.proofs.Checking.{refused-weaker}
use Rattle.tree_kernel.proofs.Declaring.{decl-weaker}
use Rattle.tree_kernel.specs.Answers.{of_term, RefusedDecl}
use Rattle.tree_kernel.specs.declared.error.DeclError.{DeclError}

-- a refusal of a term, as that of the declaration
pub of-term : (p : Pool) (K : DeclRefusal → Type 0) (e : KernelError) → RefusedBy p (λ r. K (OfKernel r)) e → RefusedDecl p K (of_term e)
of-term p K (E.Mismatch a b) h = (λ x. absurd cc, h)
of-term p K (E.NotAFunction a) h = (λ x. absurd cc, h)
of-term p K (E.NotARecord a) h = (λ x. absurd cc, h)
of-term p K (E.NotAType a) h = (λ x. absurd cc, h)
of-term p K E.LevelTooLarge h = (λ x. absurd cc, h)
of-term p K (E.MetaLeft m) h = (λ x. absurd cc, h)
of-term p K E.OutOfFuel h = (λ x. absurd cc, h)
of-term p K E.OutOfDepth h = (λ x. absurd cc, h)
of-term p K E.NoMemory h = tt

module _ {A B : Type 0} (p : Pool) (P : Outcome Refusal A → Type 0) (Q : A → Outcome DeclRefusal B → Type 0) where
  -- terms are refused first
  pub terms_first : (e : KernelError) → RefusedBy p (λ r. P (Refuses r)) e → RefusedDecl p (λ r. AfterTerms P Q (Refuses r)) (of_term e)
  terms_first e h = of-term p (λ r. AfterTerms P Q (Refuses r)) e
      (refused-weaker p (λ r. P (Refuses r)) (λ r. AfterTerms P Q (Refuses (OfKernel r))) (λ r k. stops r k refl) e h)

  pub terms_then : (a : A) → P (Gives a) → (e : DeclError) → RefusedDecl p (λ r. Q a (Refuses r)) e → RefusedDecl p (λ r. AfterTerms P Q (Refuses r)) e
  terms_then a k e h = decl-weaker p (λ r. Q a (Refuses r)) (λ r. AfterTerms P Q (Refuses r)) (λ r q. goes_on a k q) e h

module _ {A B : Type 0} (p : Pool) (P : Outcome DeclRefusal A → Type 0) (Q : A → Outcome DeclRefusal B → Type 0) where
  pub first_refused : (e : DeclError) → RefusedDecl p (λ r. P (Refuses r)) e → RefusedDecl p (λ r. Then P Q (Refuses r)) e
  first_refused e h = decl-weaker p (λ r. P (Refuses r)) (λ r. Then P Q (Refuses r)) (λ r k. stops r k refl) e h

  pub then_refused : (a : A) → P (Gives a) → (e : DeclError) → RefusedDecl p (λ r. Q a (Refuses r)) e → RefusedDecl p (λ r. Then P Q (Refuses r)) e
  then_refused a k e h = decl-weaker p (λ r. Q a (Refuses r)) (λ r. Then P Q (Refuses r)) (λ r q. goes_on a k q) e h

-- terms, and then a second reading of what is shown
module _ {A B C : Type 0} (P : Outcome Refusal A → Type 0) (Q : A → Outcome DeclRefusal B → Type 0) (R : B → Outcome DeclRefusal C → Type 0) where
  pub after_gives : (b : B) (o : Outcome DeclRefusal C) → AfterTerms P Q (Gives b) → R b o → AfterTerms P (λ a. Then (Q a) R) o
  after_gives b o (goes_on a p q) h = goes_on a p (goes_on b q h)
  after_gives b o (stops e p n) h = absurd cc

  after_refuses : (e : DeclRefusal) → AfterTerms P Q (Refuses e) → AfterTerms P (λ a. Then (Q a) R) (Refuses e)
  after_refuses e (goes_on a p q) = goes_on a p (stops e q refl)
  after_refuses e (stops d p n) = let same : e ≡ OfKernel d = cc n in stops d p (ap Refuses same)

  pub after_refused : (p : Pool) (e : DeclError) → RefusedDecl p (λ r. AfterTerms P Q (Refuses r)) e
      → RefusedDecl p (λ r. AfterTerms P (λ a. Then (Q a) R) (Refuses r)) e
  after_refused p e h = decl-weaker p (λ r. AfterTerms P Q (Refuses r)) (λ r. AfterTerms P (λ a. Then (Q a) R) (Refuses r)) after_refuses e h
