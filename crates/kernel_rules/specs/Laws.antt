-- The statements of the laws of the kernel's reading of terms.
use Rattle.std.specs.Prelude.{◌≡◌, ℕ, length}
use Rattle.core_rules.specs.Term.{Term, Sort}
use Rattle.core_rules.specs.Signature.{Context, Signature}
use Rattle.core_rules.specs.InScope.{InScope, any_meta}
use Rattle.core_rules.specs.BoundedLaws.{ExactlyOne}
use Rattle.core_rules.specs.TreeLaws.{IsSound}
use Rattle.core_rules.specs.Typing.{Typing}
use Rattle.kernel_rules.specs.Outcome.{Outcome, Gives}
use Rattle.kernel_rules.specs.Refusals.{Refusal}
use Rattle.kernel_rules.specs.TermReading.{InferOf, IsTypeOf, CheckOf}

-- of any term in any context, in scope or not
abbrev pub OneOutcome : Type 0
OneOutcome = (g : Signature Term) (fuel depth : ℕ) (c : Context Term) (t : Term) (r q : Outcome Refusal Term) → InferOf g fuel depth c t r → InferOf g fuel depth c t q → r ≡ q

-- the three readings of a term in scope: no rule is missing, and no two rules disagree
abbrev pub ExactlyOneOutcome : Type 0
ExactlyOneOutcome = (g : Signature Term) (fuel depth : ℕ) (c : Context Term) (t a : Term) → InScope g any_meta (length c) t
    → ExactlyOne (InferOf g fuel depth c t) × ExactlyOne (IsTypeOf g fuel depth c t) × ExactlyOne (CheckOf g fuel depth c t a)

abbrev pub AcceptedIsTyped : Type 0
AcceptedIsTyped = (g : Signature Term) (fuel depth : ℕ) (c : Context Term) (t a : Term) → IsSound g → InferOf g fuel depth c t (Gives a) → Typing g c t a

abbrev pub CheckedIsTyped : Type 0
CheckedIsTyped = (g : Signature Term) (fuel depth : ℕ) (c : Context Term) (t a : Term) → IsSound g → CheckOf g fuel depth c t a (Gives tt) → Typing g c t a

abbrev pub TypeIsTyped : Type 0
TypeIsTyped = (g : Signature Term) (fuel depth : ℕ) (c : Context Term) (t : Term) (n : ℕ) → IsSound g → IsTypeOf g fuel depth c t (Gives n) → Typing g c t (Sort n)
