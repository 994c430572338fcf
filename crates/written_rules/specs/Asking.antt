-- A reading that asks for bounded head forms and for verdicts of bounded conversion on its way, and what it comes to.
use Rattle.std.specs.Prelude.{◌≡◌, ℕ}
use Rattle.core_rules.specs.Term.{Term}
use Rattle.core_rules.specs.Signature.{Signature}
use Rattle.core_rules.specs.Heads.{Bounded, HeadOf}
use Rattle.core_rules.specs.Bounded.{Verdict, ConvOf}
use Rattle.core_rules.specs.BoundedLaws.{no_solutions}
use Rattle.kernel_rules.specs.Outcome.{Outcome, Gives, Refuses}
use Rattle.written_rules.specs.Refusals.{Refusal}

-- an answer at once; or a question, the head form of a term or the verdict on two terms, and how the reading goes on by what is answered
pub data Asking (A : Type 0) : Type 0 where
  Is : A → Asking A
  AsksHead : Term → (Bounded → Asking A) → Asking A
  AsksVerdict : Term → Term → (Verdict → Asking A) → Asking A

-- a reading that gives something, or is refused
abbrev pub Reads : Type 0 → Type 0
Reads A = Asking (Outcome Refusal A)

-- one reading, and with what it gives another. The first refusal counts
abbrev pub and_then : {A B : Type 0} → Reads A → (A → Reads B) → Reads B
and_then (Is (Gives a)) k = k a
and_then (Is (Refuses e)) k = Is (Refuses e)
and_then (AsksHead t f) k = AsksHead t (λ b. and_then (f b) k)
and_then (AsksVerdict t u f) k = AsksVerdict t u (λ v. and_then (f v) k)

infixl 10 ◌>>=◌
abbrev pub ◌>>=◌ : {A B : Type 0} → Reads A → (A → Reads B) → Reads B
m >>= k = and_then m k

abbrev pub gives : {A : Type 0} → A → Reads A
gives a = Is (Gives a)

-- over a signature, with this fuel for each head form and to this depth in each comparison, the reading comes to r
abbrev pub Comes : Signature Term → ℕ → ℕ → {A : Type 0} → Asking A → A → Type 0
Comes g fuel depth (Is a) r = r ≡ a
Comes g fuel depth (AsksHead t f) r = (b : Bounded) × HeadOf g no_solutions t fuel b × Comes g fuel depth (f b) r
Comes g fuel depth (AsksVerdict t u f) r = (v : Verdict) × ConvOf g no_solutions fuel depth t u v × Comes g fuel depth (f v) r
