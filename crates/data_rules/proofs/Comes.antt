-- What one reading after another comes to, and a declaration: exactly one thing.
use Rattle.std.proofs.Common.{◌≡◌, refl, sym, ◌∙◌, subst}
use Rattle.std.specs.Prelude.{ℕ}
use Rattle.core_rules.specs.Signature.{Signature}
use Rattle.core_rules.specs.Term.{Term}
use Rattle.core_rules.specs.BoundedLaws.{ExactlyOne}
use Rattle.kernel_rules.specs.Outcome.{Outcome, Gives, Refuses, ThenAs, goes_on, stops}
use Rattle.kernel_rules.proofs.Outcome.{one_gives, one_refuses, one-then}
use Rattle.written_rules.specs.Asking.{Asking, Is, AsksHead, AsksVerdict, Comes}
use Rattle.data_rules.specs.Reading.{after}

module _ (g : Signature Term) (fuel depth : ℕ) where
  -- one reading and then another comes to what the two come to, one after the other
  pub comes_then : {E F A B : Type 0} (f : E → F) (m : Asking (Outcome E A)) (k : A → Asking (Outcome F B)) (r : Outcome F B)
      → Comes g fuel depth (after f m k) r → ThenAs f (Comes g fuel depth m) (λ a. Comes g fuel depth (k a)) r
  comes_then f (Is (Gives a)) k r x = goes_on a refl x
  comes_then f (Is (Refuses e)) k r x = stops e refl x
  comes_then {E} {F} {A} {B} f (AsksHead t h) k r x = asked (comes_then f (h x.0) k r x.2)
    where
      asked : ThenAs f (Comes g fuel depth (h x.0)) (λ a. Comes g fuel depth (k a)) r → ThenAs f (Comes g fuel depth (AsksHead t h)) (λ a. Comes g fuel depth (k a)) r
      asked (goes_on a y z) = goes_on a (x.0, x.1, y) z
      asked (stops e y z) = stops e (x.0, x.1, y) z
  comes_then {E} {F} {A} {B} f (AsksVerdict t u h) k r x = asked (comes_then f (h x.0) k r x.2)
    where
      asked : ThenAs f (Comes g fuel depth (h x.0)) (λ a. Comes g fuel depth (k a)) r → ThenAs f (Comes g fuel depth (AsksVerdict t u h)) (λ a. Comes g fuel depth (k a)) r
      asked (goes_on a y z) = goes_on a (x.0, x.1, y) z
      asked (stops e y z) = stops e (x.0, x.1, y) z

  pub then_comes : {E F A B : Type 0} (f : E → F) (m : Asking (Outcome E A)) (k : A → Asking (Outcome F B)) (r : Outcome F B)
      → ThenAs f (Comes g fuel depth m) (λ a. Comes g fuel depth (k a)) r → Comes g fuel depth (after f m k) r
  then_comes f (Is (Gives a)) k r (goes_on b x y) = subst (λ c. Comes g fuel depth (k c) r) (one_gives x) y
  then_comes f (Is (Gives a)) k r (stops e x y) = absurd cc
  then_comes f (Is (Refuses e)) k r (goes_on b x y) = absurd cc
  then_comes f (Is (Refuses e)) k r (stops d x y) = subst (λ c. r ≡ Refuses (f c)) (one_refuses x) y
  then_comes f (AsksHead t h) k r (goes_on a x y) = (x.0, x.1, then_comes f (h x.0) k r (goes_on a x.2 y))
  then_comes f (AsksHead t h) k r (stops e x y) = (x.0, x.1, then_comes f (h x.0) k r (stops e x.2 y))
  then_comes f (AsksVerdict t u h) k r (goes_on a x y) = (x.0, x.1, then_comes f (h x.0) k r (goes_on a x.2 y))
  then_comes f (AsksVerdict t u h) k r (stops e x y) = (x.0, x.1, then_comes f (h x.0) k r (stops e x.2 y))

-- of two readings of which the second has one answer for each thing that the first gives
pub then-exactly : {E F A B : Type 0} {f : E → F} {P : Outcome E A → Type 0} {Q : A → Outcome F B → Type 0} → ExactlyOne P → ((a : A) → ExactlyOne (Q a)) → ExactlyOne (ThenAs f P Q)
then-exactly {E = E} {F = F} {A = A} {B = B} {f = f} {P = P} {Q = Q} p q = decided p.0 p.1
  where
    only : {r : Outcome F B} → ThenAs f P Q r → (s : Outcome F B) → ThenAs f P Q s → s ≡ r
    only {r} x s y = one-then (λ a b i j. p.2 a i ∙ sym (p.2 b j)) (λ a b c i j. (q a).2 b i ∙ sym ((q a).2 c j)) s r y x

    decided : (o : Outcome E A) → P o → ExactlyOne (ThenAs f P Q)
    decided (Gives a) x = let h = goes_on a x (q a).1 in ((q a).0, h, λ s y. only h s y)
    decided (Refuses e) x = let h = stops e x refl in (Refuses (f e), h, λ s y. only h s y)
