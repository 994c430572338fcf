-- What a reading comes to: exactly one thing.
use Rattle.std.proofs.Common.{◌≡◌, refl, sym, ◌∙◌, subst}
use Rattle.std.specs.Prelude.{ℕ}
use Rattle.core_rules.specs.Signature.{Signature}
use Rattle.core_rules.specs.Term.{Term}
use Rattle.core_rules.specs.BoundedLaws.{no_solutions, ExactlyOne}
use Rattle.core_rules.proofs.Heads.Needed.{head_of_stands, verdict_stands}
use Rattle.core_rules.proofs.Heads.OneVerdict.{head_of_one, conv_of_one}
use Rattle.core_rules.proofs.Heads.Same.{nothing_acyclic}
use Rattle.kernel_rules.specs.Outcome.{Outcome, Gives, Refuses, Then, goes_on, stops}
use Rattle.kernel_rules.proofs.Outcome.{one_gives, then-gives}
use Rattle.written_rules.specs.Refusals.{Refusal}
use Rattle.written_rules.specs.Asking.{Asking, Is, AsksHead, AsksVerdict, Reads, and_then, Comes}

module _ (g : Signature Term) (fuel depth : ℕ) where
  pub comes_stands : {A : Type 0} (m : Asking A) → (r : A) × Comes g fuel depth m r
  comes_stands (Is a) = (a, refl)
  comes_stands (AsksHead t f) = let h = head_of_stands g no_solutions t fuel nothing_acyclic in let k = comes_stands (f h.0) in (k.0, (h.0, h.1, k.1))
  comes_stands (AsksVerdict t u f) = let h = verdict_stands g no_solutions fuel depth t u nothing_acyclic in let k = comes_stands (f h.0) in (k.0, (h.0, h.1, k.1))

  pub comes_once : {A : Type 0} (m : Asking A) (r q : A) → Comes g fuel depth m r → Comes g fuel depth m q → r ≡ q
  comes_once (Is a) r q x y = x ∙ sym y
  comes_once (AsksHead t f) r q x y =
      comes_once (f y.0) r q (subst (λ b. Comes g fuel depth (f b) r) (head_of_one g no_solutions t fuel x.0 y.0 x.1 y.1) x.2) y.2
  comes_once (AsksVerdict t u f) r q x y =
      comes_once (f y.0) r q (subst (λ v. Comes g fuel depth (f v) r) (conv_of_one g no_solutions fuel depth t u x.0 y.0 x.1 y.1) x.2) y.2

  pub comes-exactly : {A : Type 0} (m : Asking A) → ExactlyOne (Comes g fuel depth m)
  comes-exactly m = let h = comes_stands m in (h.0, h.1, λ q y. comes_once m q h.0 y h.1)

  -- one reading and then another comes to what the two come to, one after the other
  pub comes_then : {A B : Type 0} (m : Reads A) (k : A → Reads B) (r : Outcome Refusal B) → Comes g fuel depth (and_then m k) r → Then (Comes g fuel depth m) (λ a. Comes g fuel depth (k a)) r
  comes_then (Is (Gives a)) k r x = goes_on a refl x
  comes_then (Is (Refuses e)) k r x = stops e refl x
  comes_then {B = B} (AsksHead t f) k r x = asked (comes_then (f x.0) k r x.2)
    where
      asked : Then (Comes g fuel depth (f x.0)) (λ a. Comes g fuel depth (k a)) r → Then (Comes g fuel depth (AsksHead t f)) (λ a. Comes g fuel depth (k a)) r
      asked (goes_on a y z) = goes_on a (x.0, x.1, y) z
      asked (stops e y z) = stops e (x.0, x.1, y) z
  comes_then {B = B} (AsksVerdict t u f) k r x = asked (comes_then (f x.0) k r x.2)
    where
      asked : Then (Comes g fuel depth (f x.0)) (λ a. Comes g fuel depth (k a)) r → Then (Comes g fuel depth (AsksVerdict t u f)) (λ a. Comes g fuel depth (k a)) r
      asked (goes_on a y z) = goes_on a (x.0, x.1, y) z
      asked (stops e y z) = stops e (x.0, x.1, y) z

  pub then_comes : {A B : Type 0} (m : Reads A) (k : A → Reads B) (r : Outcome Refusal B) → Then (Comes g fuel depth m) (λ a. Comes g fuel depth (k a)) r → Comes g fuel depth (and_then m k) r
  then_comes (Is (Gives a)) k r (goes_on b x y) = subst (λ c. Comes g fuel depth (k c) r) (one_gives x) y
  then_comes (Is (Gives a)) k r (stops e x y) = absurd cc
  then_comes (Is (Refuses e)) k r (goes_on b x y) = absurd cc
  then_comes (Is (Refuses e)) k r (stops d x y) = cc
  then_comes (AsksHead t f) k r (goes_on a x y) = (x.0, x.1, then_comes (f x.0) k r (goes_on a x.2 y))
  then_comes (AsksHead t f) k r (stops e x y) = (x.0, x.1, then_comes (f x.0) k r (stops e x.2 y))
  then_comes (AsksVerdict t u f) k r (goes_on a x y) = (x.0, x.1, then_comes (f x.0) k r (goes_on a x.2 y))
  then_comes (AsksVerdict t u f) k r (stops e x y) = (x.0, x.1, then_comes (f x.0) k r (stops e x.2 y))

  -- what gives something at the end gave something before
  pub comes_gives : {A B : Type 0} (m : Reads A) (k : A → Reads B) (b : B) → Comes g fuel depth (and_then m k) (Gives b) → (a : A) × Comes g fuel depth m (Gives a) × Comes g fuel depth (k a) (Gives b)
  comes_gives m k b x = then-gives (comes_then m k (Gives b) x)
