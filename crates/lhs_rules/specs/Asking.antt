-- A reading that asks for bounded head forms and for the unifier's answers on its way, and what it comes to.
use Rattle.std.specs.Prelude.{◌≡◌, ℕ, List}
use Rattle.core_rules.specs.Term.{Term}
use Rattle.core_rules.specs.Signature.{Context, Signature}
use Rattle.core_rules.specs.Heads.{Solutions, Bounded, HeadOf}
use Rattle.core_rules.specs.Unification.{Equation}
use Rattle.core_rules.specs.UnifierAnswers.{Unified, Unifier}
use Rattle.kernel_rules.specs.Outcome.{Outcome, Gives, Refuses}
use Rattle.lhs_rules.specs.Refusals.{Refusal}

-- an answer at once; or a question, the head form of a term or what equations say of a context, and how the reading goes on by what is
-- answered
pub data Asking (A : Type 0) : Type 0 where
  Is : A → Asking A
  AsksHead : Term → (Bounded → Asking A) → Asking A
  AsksUnifier : Context Term → List Equation → (Unified → Asking A) → Asking A

-- a reading that gives something, or is refused
abbrev pub Reads : Type 0 → Type 0
Reads A = Asking (Outcome Refusal A)

-- one reading, and with what it gives another. The first refusal counts
abbrev pub and_then : {A B : Type 0} → Reads A → (A → Reads B) → Reads B
and_then (Is (Gives a)) k = k a
and_then (Is (Refuses e)) k = Is (Refuses e)
and_then (AsksHead t f) k = AsksHead t (λ b. and_then (f b) k)
and_then (AsksUnifier c es f) k = AsksUnifier c es (λ v. and_then (f v) k)

infixl 10 ◌>>=◌
abbrev pub ◌>>=◌ : {A B : Type 0} → Reads A → (A → Reads B) → Reads B
m >>= k = and_then m k

abbrev pub gives : {A : Type 0} → A → Reads A
gives a = Is (Gives a)

-- over a signature with solutions of metavariables, with this fuel for each head form and this unifier, the reading comes to r
abbrev pub Comes : Signature Term → Solutions → ℕ → Unifier → {A : Type 0} → Asking A → A → Type 0
Comes g s fuel U (Is a) r = r ≡ a
Comes g s fuel U (AsksHead t f) r = (b : Bounded) × HeadOf g s t fuel b × Comes g s fuel U (f b) r
Comes g s fuel U (AsksUnifier c es f) r = (v : Unified) × U c es v × Comes g s fuel U (f v) r
