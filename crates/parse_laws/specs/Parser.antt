-- Parsers as functions on lists of tokens: a value with the tokens that are left, or a refusal with the number of those from the refused one on.
use Rattle.std.specs.Prelude.{ℕ, zero, suc, ◌-◌, Bool, false, if◌then◌else◌, List, [], ◌∷◌, ◌++◌, length, take, Option, Some, None, Result, Ok, Err}

abbrev pub Outcome : Type 0 → Type 0 → Type 0
Outcome S A = Result (A × List S) ℕ

abbrev pub Parser : Type 0 → Type 0 → Type 0
Parser S A = List S → Outcome S A

abbrev pub and_then : {S A B : Type 0} → Outcome S A → (A → Parser S B) → Outcome S B
and_then (Ok x) q = q x.0 x.1
and_then (Err n) q = Err n

infixl 10 ◌>>=◌
abbrev pub ◌>>=◌ : {S A B : Type 0} → Parser S A → (A → Parser S B) → Parser S B
p >>= q = λ i. and_then (p i) q

infixl 10 ◌>>◌
abbrev pub ◌>>◌ : {S A B : Type 0} → Parser S A → Parser S B → Parser S B
p >> q = p >>= (λ _. q)

-- no token is taken
abbrev pub pure : {S A : Type 0} → A → Parser S A
pure a = λ i. Ok (a, i)

-- the next token, where it is one that gives a value
abbrev pub given : {S A : Type 0} → List S → List S → Option A → Outcome S A
given i rest None = Err (length i)
given i rest (Some a) = Ok (a, rest)

unfoldable pub one : {S A : Type 0} → (S → Option A) → Parser S A
one read [] = Err 0
one read (s ∷ i) = given (s ∷ i) i (read s)

-- whether the next token passes a test
abbrev pub next_is : {S : Type 0} → (S → Bool) → List S → Bool
next_is test [] = false
next_is test (s ∷ i) = test s

-- one parser or the other, by the next token
abbrev pub choose : {S A : Type 0} → (S → Bool) → Parser S A → Parser S A → Parser S A
choose test p q = λ i. if next_is test i then p i else q i

-- items while they come, after those found; the number bounds the turns
abbrev pub on_item : {S A : Type 0} → List A → (List A → Parser S (List A)) → Option A → Parser S (List A)
on_item found more None = pure found
on_item found more (Some a) = more (found ++ a ∷ [])

unfoldable pub many_from : {S A : Type 0} → (List A → Parser S (Option A)) → ℕ → List A → Parser S (List A)
many_from item zero found = pure found
many_from item (suc n) found = item found >>= on_item found (many_from item n)

-- an item, if one comes
abbrev pub optional : {S A : Type 0} → (S → Bool) → Parser S A → Parser S (Option A)
optional test p = choose test (p >>= (λ a. pure (Some a))) (pure None)

-- a value with the tokens that were taken for it
abbrev pub taken_for : {S A : Type 0} → List S → Outcome S A → Outcome S (A × List S)
taken_for i (Ok x) = Ok ((x.0, take (length i - length x.1) i), x.1)
taken_for i (Err n) = Err n

unfoldable pub with_taken : {S A : Type 0} → Parser S A → Parser S (A × List S)
with_taken p = λ i. taken_for i (p i)

-- no token is left
unfoldable pub at_end : {S : Type 0} → Parser S (Unit {0})
at_end [] = Ok (tt, [])
at_end (s ∷ i) = Err (length (s ∷ i))

-- and nothing behind it
abbrev pub ended : {S A : Type 0} → Parser S A → Parser S A
ended p = p >>= (λ a. at_end >> pure a)
