-- The answers for parts of a family.
use Rattle.std.specs.Prelude.{Err}
use Rattle.term_pool.specs.Pool.{Pool}
use Rattle.kernel_rules.specs.Outcome.{Outcome, Refuses}
use Rattle.kernel_rules.specs.Refusals.{DeclRefusal, OfKernel, ConShape, TooBig}
use Rattle.core_kernel.specs.declared.error.KernelError.{KernelError}
use Rattle.core_kernel.specs.declared.error.KernelError.TheVariants as E
use Rattle.core_kernel.specs.declared.error.FamilyError.{FamilyError}
use Rattle.core_kernel.specs.declared.error.FamilyError.TheVariants as F
use Rattle.core_kernel.specs.Answers.{RefusedBy, AnswersFamily, in_family}
use Rattle.core_kernel.proofs.Checking.{refused-weaker}

-- the refusal of a term
pub refused_term : (p : Pool) (K : Outcome DeclRefusal (Unit {0}) → Type 0) (e : KernelError) → RefusedBy p (λ r. K (Refuses (OfKernel r))) e → AnswersFamily p K (Err (in_family e))
refused_term p K (E.Mismatch a b) h = (λ x. absurd cc, h)
refused_term p K (E.NotAFunction a) h = (λ x. absurd cc, h)
refused_term p K (E.NotARecord a) h = (λ x. absurd cc, h)
refused_term p K (E.NotAType a) h = (λ x. absurd cc, h)
refused_term p K E.LevelTooLarge h = (λ x. absurd cc, h)
refused_term p K (E.MetaLeft m) h = (λ x. absurd cc, h)
refused_term p K E.OutOfFuel h = (λ x. absurd cc, h)
refused_term p K E.OutOfDepth h = (λ x. absurd cc, h)
refused_term p K E.NoMemory h = tt

pub refused_part : (p : Pool) (K L : Outcome DeclRefusal (Unit {0}) → Type 0) → ((r : DeclRefusal) → K (Refuses r) → L (Refuses r)) → (e : FamilyError) → AnswersFamily p K (Err e) → AnswersFamily p L (Err e)
refused_part p K L w (F.Kernel e) h = (h.0, refused-weaker p (λ r. K (Refuses (OfKernel r))) (λ r. L (Refuses (OfKernel r))) (λ r k. w (OfKernel r) k) e h.1)
refused_part p K L w F.ConShape h = w ConShape h
refused_part p K L w F.TooBig h = w TooBig h
refused_part p K L w F.NoMemory h = tt
