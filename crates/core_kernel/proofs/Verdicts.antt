-- What a verdict says of a term whose type was compared.
use Rattle.std.proofs.Common.{◌≡◌, ◌<◌, ℕ, length, refl}
use Rattle.core_rules.specs.Term.{Term}
use Rattle.core_rules.specs.Signature.{Signature}
use Rattle.core_rules.specs.Bounded.{Yes, No, WaitsFor, ConvOf}
use Rattle.core_rules.specs.Bounded as q
use Rattle.core_rules.specs.BoundedLaws.{no_solutions}
use Rattle.term_pool.specs.Pool.{Pool, tree}
use Rattle.conversion.specs.declared.conv.Conv as V
use Rattle.conversion.specs.declared.conv.Conv.TheVariants as C
use Rattle.conversion.specs.Conv.{IsVerdict}
use Rattle.kernel_rules.specs.Outcome.{Refuses}
use Rattle.kernel_rules.specs.Refusals.{Mismatch}
use Rattle.kernel_rules.specs.TermReading.{Agrees}
use Rattle.core_kernel.specs.Answers.{Answers}
use Rattle.core_kernel.specs.Checker.{agreement_by}

module _ (g : Signature Term) (fuel depth : ℕ) (a b : Term) (p : Pool) (t u : ℕ) where
  pub agreed : (v : V.Conv) → IsVerdict (ConvOf g no_solutions fuel depth a b) p v → t < length p.trees → u < length p.trees → tree p t ≡ a → tree p u ≡ b → Answers p (Agrees g fuel depth a b) (agreement_by v t u)
  agreed C.Yes h l m e f = (Yes, h, refl)
  agreed (C.No x y xs) h l m e f = (l, m, (No (tree p x) (tree p y) xs, h.is, (λ i. Refuses (Mismatch (e i) (f i)))))
  agreed C.OutOfFuel h l m e f = (q.OutOfFuel, h, refl)
  agreed C.OutOfDepth h l m e f = (q.OutOfDepth, h, refl)
  agreed (C.Blocked i) h l m e f = (WaitsFor i, h, refl)
  agreed C.NoMemory h l m e f = tt
