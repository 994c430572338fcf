-- Readings of declarations: they ask what readings of expressions ask, and have the refusals of declarations.
use Rattle.kernel_rules.specs.Outcome.{Outcome, Gives, Refuses}
use Rattle.el_outside.specs.declared.place.Pos.{Pos}
use Rattle.written_rules.specs.Refusals as written
use Rattle.written_rules.specs.Asking.{Asking, Is, AsksHead, AsksVerdict}
use Rattle.data_rules.specs.Refusals.{Refusal, Kind, at, elab}

-- a reading that gives something, or is refused
abbrev pub Reads : Type 0 → Type 0
Reads A = Asking (Outcome Refusal A)

-- one reading, and with what it gives another. The first refusal counts; a refusal e of the first reading is f e
abbrev pub after : {E F A B : Type 0} → (E → F) → Asking (Outcome E A) → (A → Asking (Outcome F B)) → Asking (Outcome F B)
after f (Is (Gives a)) k = k a
after f (Is (Refuses e)) k = Is (Refuses (f e))
after f (AsksHead t h) k = AsksHead t (λ b. after f (h b) k)
after f (AsksVerdict t u h) k = AsksVerdict t u (λ v. after f (h v) k)

infixl 10 ◌>>=◌
abbrev pub ◌>>=◌ : {A B : Type 0} → Reads A → (A → Reads B) → Reads B
m >>= k = after (λ (e : Refusal). e) m k

-- the reading of an expression, and with what it gives a reading of the declaration
abbrev pub elaborated : {A B : Type 0} → Asking (Outcome written.Refusal A) → (A → Reads B) → Reads B
elaborated m k = after elab m k

abbrev pub gives : {A : Type 0} → A → Reads A
gives a = Is (Gives a)

abbrev pub refused : {A : Type 0} → Pos → Kind → Reads A
refused p k = Is (Refuses (at p k))
