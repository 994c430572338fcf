-- Outcomes, and what comes of one after another.
use Rattle.std.proofs.Common.{◌≡◌, sym, ◌∙◌, ap, subst}
use Rattle.kernel_rules.specs.Outcome.{Outcome, Gives, Refuses, ThenAs, goes_on, stops}

abbrev given : {E A : Type 0} → A → Outcome E A → A
given d (Gives a) = a
given d (Refuses e) = d

pub one_gives : {E A : Type 0} {x y : A} → ◌≡◌ {A = Outcome E A} (Gives x) (Gives y) → x ≡ y
one_gives {E} {A} {x} {y} e = ap (given x) e

pub one_refuses : {E A : Type 0} {x y : E} → ◌≡◌ {A = Outcome E A} (Refuses x) (Refuses y) → x ≡ y
one_refuses e = cc e

abbrev pub IsOne : {E A : Type 0} → (Outcome E A → Type 0) → Type 0
IsOne {E} {A} P = (r q : Outcome E A) → P r → P q → r ≡ q

pub one-is : {E A : Type 0} (v : Outcome E A) → IsOne (λ r. r ≡ v)
one-is v r q e f = e ∙ sym f

pub one-then : {E F A B : Type 0} {f : E → F} {P : Outcome E A → Type 0} {Q : A → Outcome F B → Type 0} → IsOne P → ((a : A) → IsOne (Q a)) → (r q : Outcome F B) → ThenAs f P Q r → ThenAs f P Q q → r ≡ q
one-then {Q = Q} p k r q (goes_on a x h) (goes_on b y i) = let same = one_gives (p (Gives a) (Gives b) x y) in k b r q (subst (λ a. Q a r) same h) i
one-then p k r q (goes_on a x h) (stops e y i) = let no_way = p (Gives a) (Refuses e) x y in absurd cc
one-then p k r q (stops e x h) (goes_on b y i) = let no_way = p (Refuses e) (Gives b) x y in absurd cc
one-then {f = f} p k r q (stops e x h) (stops d y i) = let same = one_refuses (p (Refuses e) (Refuses d) x y) in h ∙ ap (λ e. Refuses (f e)) same ∙ sym i

-- what gives something at the end gave something before
pub then-gives : {E F A B : Type 0} {f : E → F} {P : Outcome E A → Type 0} {Q : A → Outcome F B → Type 0} {b : B} → ThenAs f P Q (Gives b) → (a : A) × P (Gives a) × Q a (Gives b)
then-gives (goes_on a p q) = (a, p, q)
then-gives (stops e p x) = absurd cc
