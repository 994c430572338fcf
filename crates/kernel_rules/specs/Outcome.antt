-- What a reading comes to: what it gives, or its first refusal; and one reading after another.
use Rattle.std.specs.Prelude.{◌≡◌}

pub data Outcome (E A : Type 0) : Type 0 where
  Gives : A → Outcome E A
  Refuses : E → Outcome E A

-- r is the outcome of P followed by Q, which reads what P gives. A refusal e of P ends both, as the refusal f e
pub data ThenAs {E F A B : Type 0} (f : E → F) (P : Outcome E A → Type 0) (Q : A → Outcome F B → Type 0) (r : Outcome F B) : Type 0 where
  goes_on : (a : A) → P (Gives a) → Q a r → ThenAs f P Q r
  stops : (e : E) → P (Refuses e) → r ≡ Refuses (f e) → ThenAs f P Q r

-- where both have refusals of one kind
abbrev pub Then : {E A B : Type 0} → (Outcome E A → Type 0) → (A → Outcome E B → Type 0) → Outcome E B → Type 0
Then {E} P Q r = ThenAs (λ (e : E). e) P Q r
