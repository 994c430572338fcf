-- The parts of the reading of a declaration, one after the other.
use Rattle.std.proofs.Common.{ℕ, refl}
use Rattle.std.specs.Prelude.{Result, Ok, Err}
use Rattle.term_pool.specs.Pool.{Pool}
use Rattle.kernel_rules.specs.Outcome.{Outcome, Gives, Refuses, goes_on, stops}
use Rattle.kernel_rules.specs.Refusals.{Refusal, DeclRefusal, OfKernel, AfterTerms, IsAccepted}
use Rattle.core_kernel.specs.Answers.{RefusedBy, AnswersFamily}
use Rattle.core_kernel.specs.declared.error.KernelError.{KernelError}
use Rattle.core_kernel.specs.declared.error.KernelError.TheVariants as E
use Rattle.core_kernel.specs.declared.error.FamilyError.{FamilyError}
use Rattle.core_kernel.specs.declared.error.FamilyError.TheVariants as F
use Rattle.core_kernel.proofs.Checking.{refused-weaker}
use Rattle.tree_kernel.specs.Answers.{of_term, of_family, RefusedDecl, AnswersDecl, AnswersType}
use Rattle.tree_kernel.specs.declared.error.DeclError.{DeclError}
use Rattle.tree_kernel.specs.declared.error.DeclError.TheVariants as D

-- a refusal of the type
pub type_refused : (p : Pool) (K : Outcome Refusal ℕ → Type 0) (e : KernelError) → RefusedBy p (λ r. K (Refuses r)) e → AnswersType p K (Err (of_term e))
type_refused p K (E.Mismatch a b) h = (λ x. absurd cc, h)
type_refused p K (E.NotAFunction a) h = (λ x. absurd cc, h)
type_refused p K (E.NotARecord a) h = (λ x. absurd cc, h)
type_refused p K (E.NotAType a) h = (λ x. absurd cc, h)
type_refused p K E.LevelTooLarge h = (λ x. absurd cc, h)
type_refused p K (E.MetaLeft m) h = (λ x. absurd cc, h)
type_refused p K E.OutOfFuel h = (λ x. absurd cc, h)
type_refused p K E.OutOfDepth h = (λ x. absurd cc, h)
type_refused p K E.NoMemory h = tt

-- a postulate is its type
pub postulate : (p : Pool) (K : Outcome Refusal ℕ → Type 0) (r : Result (Unit {0}) DeclError) → AnswersType p K r
    → AnswersDecl p (AfterTerms K (λ n. IsAccepted)) r
postulate p K (Ok o) h = goes_on h.0 h.1 refl
postulate p K (Err (D.Kernel e)) h = (
  h.0,
  refused-weaker p (λ r. K (Refuses r)) (λ r. AfterTerms K (λ n. IsAccepted) (Refuses (OfKernel r)))
      (λ r k. stops r k refl) e h.1,
)
postulate p K (Err D.ConShape) h = absurd h
postulate p K (Err D.TooBig) h = absurd h
postulate p K (Err D.BadTree) h = absurd h
postulate p K (Err D.NoMemory) h = tt

-- a function is its type, and then its tree
pub function_type : (p : Pool) (K : Outcome Refusal ℕ → Type 0) (Q : ℕ → Outcome DeclRefusal (Unit {0}) → Type 0) (e : DeclError) → AnswersType p K (Err e)
    → RefusedDecl p (λ r. AfterTerms K Q (Refuses r)) e
function_type p K Q (D.Kernel e) h = (h.0, refused-weaker p (λ r. K (Refuses r)) (λ r. AfterTerms K Q (Refuses (OfKernel r))) (λ r k. stops r k refl) e h.1)
function_type p K Q D.ConShape h = absurd h
function_type p K Q D.TooBig h = absurd h
function_type p K Q D.BadTree h = absurd h
function_type p K Q D.NoMemory h = tt

pub decl-weaker : (p : Pool) (K L : DeclRefusal → Type 0) → ((r : DeclRefusal) → K r → L r) → (e : DeclError) → RefusedDecl p K e → RefusedDecl p L e
decl-weaker p K L w (D.Kernel e) h = (h.0, refused-weaker p (λ r. K (OfKernel r)) (λ r. L (OfKernel r)) (λ r k. w (OfKernel r) k) e h.1)
decl-weaker p K L w D.ConShape h = w _ h
decl-weaker p K L w D.TooBig h = w _ h
decl-weaker p K L w D.BadTree h = w _ h
decl-weaker p K L w D.NoMemory h = tt

pub answers-weaker : (p : Pool) (K L : Outcome DeclRefusal (Unit {0}) → Type 0) → ((r : Outcome DeclRefusal (Unit {0})) → K r → L r)
    → (r : Result (Unit {0}) DeclError) → AnswersDecl p K r → AnswersDecl p L r
answers-weaker p K L w (Ok o) h = w (Gives tt) h
answers-weaker p K L w (Err e) h = decl-weaker p (λ r. K (Refuses r)) (λ r. L (Refuses r)) (λ r k. w (Refuses r) k) e h

pub family-refused : (p : Pool) (K : Outcome DeclRefusal (Unit {0}) → Type 0) (e : FamilyError) → AnswersFamily p K (Err e)
    → RefusedDecl p (λ r. K (Refuses r)) (of_family e)
family-refused p K (F.Kernel e) h = h
family-refused p K F.ConShape h = h
family-refused p K F.TooBig h = h
family-refused p K F.NoMemory h = tt
