-- What a reading comes to: exactly one thing.
use Rattle.std.proofs.Common.{◌≡◌, refl, sym, ◌∙◌, subst}
use Rattle.std.specs.Prelude.{ℕ, List}
use Rattle.core_rules.specs.Signature.{Context, Signature}
use Rattle.core_rules.specs.Term.{Term}
use Rattle.core_rules.specs.InScope.{IsAcyclic}
use Rattle.core_rules.specs.Heads.{Solutions}
use Rattle.core_rules.specs.Unification.{Equation}
use Rattle.core_rules.specs.UnifierAnswers.{Unified, Unifier}
use Rattle.core_rules.specs.BoundedLaws.{ExactlyOne}
use Rattle.core_rules.proofs.Heads.Needed.{head_of_stands}
use Rattle.core_rules.proofs.Heads.OneVerdict.{head_of_one}
use Rattle.kernel_rules.specs.Outcome.{Outcome, Gives, Refuses, Then, goes_on, stops}
use Rattle.kernel_rules.proofs.Outcome.{one_gives, then-gives}
use Rattle.lhs_rules.specs.Refusals.{Refusal}
use Rattle.lhs_rules.specs.Asking.{Asking, Is, AsksHead, AsksUnifier, Reads, and_then, Comes}

-- the unifier answers each question
abbrev pub AlwaysAnswers : Unifier → Type 0
AlwaysAnswers U = (c : Context Term) (es : List Equation) → (v : Unified) × U c es v

abbrev pub AnswersOnce : Unifier → Type 0
AnswersOnce U = (c : Context Term) (es : List Equation) (v w : Unified) → U c es v → U c es w → v ≡ w

module _ (g : Signature Term) (s : Solutions) (fuel : ℕ) (U : Unifier) where
  pub comes_stands : {A : Type 0} → IsAcyclic s → AlwaysAnswers U → (m : Asking A) → (r : A) × Comes g s fuel U m r
  comes_stands a u (Is x) = (x, refl)
  comes_stands a u (AsksHead t f) = let h = head_of_stands g s t fuel a in let k = comes_stands a u (f h.0) in (k.0, (h.0, h.1, k.1))
  comes_stands a u (AsksUnifier c es f) = let h = u c es in let k = comes_stands a u (f h.0) in (k.0, (h.0, h.1, k.1))

  pub comes_once : {A : Type 0} → AnswersOnce U → (m : Asking A) (r q : A) → Comes g s fuel U m r → Comes g s fuel U m q → r ≡ q
  comes_once u (Is a) r q x y = x ∙ sym y
  comes_once u (AsksHead t f) r q x y =
      comes_once u (f y.0) r q (subst (λ b. Comes g s fuel U (f b) r) (head_of_one g s t fuel x.0 y.0 x.1 y.1) x.2) y.2
  comes_once u (AsksUnifier c es f) r q x y =
      comes_once u (f y.0) r q (subst (λ v. Comes g s fuel U (f v) r) (u c es x.0 y.0 x.1 y.1) x.2) y.2

  pub comes-exactly : {A : Type 0} → IsAcyclic s → AlwaysAnswers U → AnswersOnce U → (m : Asking A) → ExactlyOne (Comes g s fuel U m)
  comes-exactly a u v m = let h = comes_stands a u m in (h.0, h.1, λ q y. comes_once v m q h.0 y h.1)

  -- one reading and then another comes to what the two come to, one after the other
  pub comes_then : {A B : Type 0} (m : Reads A) (k : A → Reads B) (r : Outcome Refusal B) → Comes g s fuel U (and_then m k) r → Then (Comes g s fuel U m) (λ a. Comes g s fuel U (k a)) r
  comes_then (Is (Gives a)) k r x = goes_on a refl x
  comes_then (Is (Refuses e)) k r x = stops e refl x
  comes_then (AsksHead t f) k r x = asked (comes_then (f x.0) k r x.2)
    where
      asked : Then (Comes g s fuel U (f x.0)) (λ a. Comes g s fuel U (k a)) r → Then (Comes g s fuel U (AsksHead t f)) (λ a. Comes g s fuel U (k a)) r
      asked (goes_on a y z) = goes_on a (x.0, x.1, y) z
      asked (stops e y z) = stops e (x.0, x.1, y) z
  comes_then (AsksUnifier c es f) k r x = asked (comes_then (f x.0) k r x.2)
    where
      asked : Then (Comes g s fuel U (f x.0)) (λ a. Comes g s fuel U (k a)) r → Then (Comes g s fuel U (AsksUnifier c es f)) (λ a. Comes g s fuel U (k a)) r
      asked (goes_on a y z) = goes_on a (x.0, x.1, y) z
      asked (stops e y z) = stops e (x.0, x.1, y) z

  pub then_comes : {A B : Type 0} (m : Reads A) (k : A → Reads B) (r : Outcome Refusal B) → Then (Comes g s fuel U m) (λ a. Comes g s fuel U (k a)) r → Comes g s fuel U (and_then m k) r
  then_comes (Is (Gives a)) k r (goes_on b x y) = subst (λ c. Comes g s fuel U (k c) r) (one_gives x) y
  then_comes (Is (Gives a)) k r (stops e x y) = absurd cc
  then_comes (Is (Refuses e)) k r (goes_on b x y) = absurd cc
  then_comes (Is (Refuses e)) k r (stops d x y) = cc
  then_comes (AsksHead t f) k r (goes_on a x y) = (x.0, x.1, then_comes (f x.0) k r (goes_on a x.2 y))
  then_comes (AsksHead t f) k r (stops e x y) = (x.0, x.1, then_comes (f x.0) k r (stops e x.2 y))
  then_comes (AsksUnifier c es f) k r (goes_on a x y) = (x.0, x.1, then_comes (f x.0) k r (goes_on a x.2 y))
  then_comes (AsksUnifier c es f) k r (stops e x y) = (x.0, x.1, then_comes (f x.0) k r (stops e x.2 y))

  -- what gives something at the end gave something before
  pub then_gives : {A B : Type 0} (m : Reads A) (k : A → Reads B) (b : B) → Comes g s fuel U (and_then m k) (Gives b) → (a : A) × Comes g s fuel U m (Gives a) × Comes g s fuel U (k a) (Gives b)
  then_gives m k b x = then-gives (comes_then m k (Gives b) x)
