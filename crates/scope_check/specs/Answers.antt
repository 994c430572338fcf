-- What is resolved, or the first refusal from left to right.
use Rattle.std.specs.Prelude.{◌≡◌, ◌≢◌, List, [], ◌∷◌, ◌++◌, codes, Result, Ok, Err}
use Rattle.source_tree.specs.declared.place.Place.{Place}
use Rattle.source_tree.specs.declared.place.Name.{Name}
use Rattle.scope_check.specs.declared.error.ScopeError.{ScopeError}
use Rattle.scope_check.specs.declared.error.ScopeError.TheVariants.{Bad, NoMemory}
use Rattle.scope_check.specs.declared.error.ScopeKind.{ScopeKind}
use Rattle.scope_check.specs.declared.error.ScopeKind.TheVariants.{Misplaced}

abbrev pub Checked : Type 0 → Type 0
Checked A = Result A ScopeError

abbrev pub and_then : {A B : Type 0} → Checked A → (A → Checked B) → Checked B
and_then (Ok x) f = f x
and_then (Err e) f = Err e

infixl 10 ◌>>=◌
abbrev pub ◌>>=◌ : {A B : Type 0} → Checked A → (A → Checked B) → Checked B
m >>= f = and_then m f

-- f of what is resolved; a refusal stays as it is
abbrev pub made : {A B : Type 0} → (A → B) → Checked A → Checked B
made f m = m >>= (λ x. Ok (f x))

-- a name is refused: at its place, with its text
abbrev pub refused : {A : Type 0} → ScopeKind → Name → Checked A
refused kind x = Err (Bad x.place.pos kind x.text)

-- a hole is refused where it may not stand
abbrev pub refused_hole : {A : Type 0} → Place → Checked A
refused_hole p = Err (Bad p.pos Misplaced (codes "?"))

-- the results one after another, behind those found, up to the first refusal
unfoldable pub each_from : {A : Type 0} → List A → List (Checked A) → Checked (List A)
each_from found [] = Ok found
each_from found (m ∷ ms) = m >>= (λ x. each_from (found ++ x ∷ []) ms)

-- the answer is s, unless memory ran out
abbrev pub Answers : {A : Type 0} → Checked A → Result A ScopeError → Type 0
Answers s (Ok x) = s ≡ Ok x
Answers s (Err e) = e ≢ NoMemory → s ≡ Err e

-- the answer is s, with ls as the variables around, unless memory ran out
abbrev pub Binds : {A B : Type 0} → Checked (A × B) → Result A ScopeError → B → Type 0
Binds s (Ok x) ls = s ≡ Ok (x, ls)
Binds s (Err e) ls = e ≢ NoMemory → s ≡ Err e

-- the answer, with b behind it, stands in this relation, unless memory ran out
abbrev pub Meets : {A B : Type 0} → (Checked (A × B) → Type 0) → Result A ScopeError → B → Type 0
Meets R (Ok x) b = R (Ok (x, b))
Meets R (Err e) b = e ≢ NoMemory → R (Err e)

-- what is left is b, unless memory ran out
abbrev pub Leaves : {B : Type 0} → Checked B → Result (Unit {0}) ScopeError → B → Type 0
Leaves s (Ok u) b = s ≡ Ok b
Leaves s (Err e) b = e ≢ NoMemory → s ≡ Err e
