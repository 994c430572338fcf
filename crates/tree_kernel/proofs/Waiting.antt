-- What is left of the fields of a cosplit and of the constructors of a split, once their first is taken.
use Rattle.std.proofs.Common.{◌≡◌, Bool, true, false, ap, sym, subst, refl}
use Rattle.std.specs.Prelude.{cond}
use Rattle.kernel_rules.specs.Outcome.{Outcome, Gives, Refuses, Then, goes_on, stops}
use Rattle.kernel_rules.specs.Refusals.{DeclRefusal, BadTree, Demands, IsAccepted}

-- a reading after which nothing is left
pub alone : {P : Outcome DeclRefusal (Unit {0}) → Type 0} (r : Outcome DeclRefusal (Unit {0})) → Then P (λ (o : Unit {0}). IsAccepted) r → P r
alone {P} r (goes_on o p q) = subst P (sym q) p
alone {P} r (stops e p n) = subst P (sym n) p

pub just : {P : Outcome DeclRefusal (Unit {0}) → Type 0} (r : Outcome DeclRefusal (Unit {0})) → P r → Then P (λ (o : Unit {0}). IsAccepted) r
just {P} (Gives o) p = goes_on o p refl
just {P} (Refuses e) p = stops e p refl

-- two readings, the second of which is the last
pub both : {P Q : Outcome DeclRefusal (Unit {0}) → Type 0} (r : Outcome DeclRefusal (Unit {0}))
    → Then P (λ (o : Unit {0}). Then Q (λ (u : Unit {0}). IsAccepted)) r → Then P (λ (o : Unit {0}). Q) r
both {P} {Q} r (goes_on o p q) = goes_on o p (alone {P = Q} r q)
both {P} {Q} r (stops e p n) = stops e p n

-- the first of two readings is of another form
pub first_as : {P Q : Outcome DeclRefusal (Unit {0}) → Type 0} {R : Unit {0} → Outcome DeclRefusal (Unit {0}) → Type 0} (r : Outcome DeclRefusal (Unit {0}))
    → ((o : Outcome DeclRefusal (Unit {0})) → P o → Q o) → Then P R r → Then Q R r
first_as r w (goes_on o p q) = goes_on o (w (Gives o) p) q
first_as r w (stops e p n) = stops e (w (Refuses e) p) n

pub then_as : {P : Outcome DeclRefusal (Unit {0}) → Type 0} {Q R : Unit {0} → Outcome DeclRefusal (Unit {0}) → Type 0} (r : Outcome DeclRefusal (Unit {0}))
    → (Q tt r → R tt r) → Then P Q r → Then P R r
then_as r w (goes_on o p q) = goes_on o p (w q)
then_as r w (stops e p n) = stops e p n

pub met : (b : Bool) → b ≡ true → Demands b BadTree (Gives tt)
met b e = sym (ap (λ (b : Bool). cond b (Gives tt) (Refuses BadTree)) e)

pub unmet : (b : Bool) → b ≡ false → Demands b BadTree (Refuses BadTree)
unmet b e = sym (ap (λ (b : Bool). cond b (Gives tt) (Refuses BadTree)) e)
