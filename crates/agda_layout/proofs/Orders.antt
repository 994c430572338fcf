-- The tokens stay in their order.
use Rattle.std.proofs.Common.{◌≡◌, ℕ, ◌+◌, Bool, true, false, cond, ◌&&◌, List, [], ◌∷◌, ◌++◌, length, map, Result, Ok, Err, refl, sym, ap, ◌∙◌, append_assoc, nat_lt, ◌==◌}
use Rattle.std.proofs.lemmas.List.{append-nil}
use Rattle.el_outside.specs.declared.Pos.{Pos}
use Rattle.agda_lexer.specs.declared.Token.{Token}
use Rattle.agda_layout.specs.declared.laid.Laid.{Laid}
use Rattle.agda_layout.specs.declared.laid.Laid.TheVariants.{Tok, Open, Next, Close}
use Rattle.agda_layout.specs.declared.header.Header.{Header}
use Rattle.agda_layout.specs.declared.header.Header.TheVariants.{Absent, Whole, Broken}
use Rattle.agda_layout.specs.Headers.{header_of}
use Rattle.agda_layout.specs.Blocks.{State, is_right_of, emptied, Closing, closed, is_at, with_next, placed, first_on_line, step, and_then, steps, ended, out_of, alone, start, behind, behind_header, laid_by, laid}
use Rattle.agda_layout.specs.Laws.{numbers, count, KeepsTokens}

numbers-append : (xs ys : List Laid) → numbers (xs ++ ys) ≡ numbers xs ++ numbers ys
numbers-append [] ys = refl
numbers-append (Tok i ∷ xs) ys = ap (λ (l : List ℕ). i ∷ l) (numbers-append xs ys)
numbers-append (Open pos ∷ xs) ys = numbers-append xs ys
numbers-append (Next pos ∷ xs) ys = numbers-append xs ys
numbers-append (Close pos ∷ xs) ys = numbers-append xs ys

-- signs that are no tokens add nothing
no_token : (xs ys : List Laid) → numbers ys ≡ [] → numbers (xs ++ ys) ≡ numbers xs
no_token xs ys none = numbers-append xs ys ∙ ap (λ (l : List ℕ). numbers xs ++ l) none ∙ append-nil (numbers xs)

emptied_keeps : (s : State) (pos : Pos) → numbers (emptied s pos) ≡ numbers s.out
emptied_keeps s pos = by_begins s.begins
  where
    by_begins : (b : Bool) → numbers (cond b (s.out ++ Open pos ∷ Close pos ∷ []) s.out) ≡ numbers s.out
    by_begins true = no_token s.out (Open pos ∷ Close pos ∷ []) refl
    by_begins false = refl

abbrev KeepsClosing : List Laid → Closing → Type 0
KeepsClosing out (Ok x) = numbers x.0 ≡ numbers out
KeepsClosing out (Err e) = Unit {0}

closing_if : (out : List Laid) (b : Bool) (x y : Closing) → KeepsClosing out x → KeepsClosing out y → KeepsClosing out (cond b x y)
closing_if out true x y p q = p
closing_if out false x y p q = q

closing_same : (out out' : List Laid) (x : Closing) → numbers out' ≡ numbers out → KeepsClosing out' x → KeepsClosing out x
closing_same out out' (Ok x) e k = k ∙ e
closing_same out out' (Err e') e k = tt

closed_keeps : (pos : Pos) (out : List Laid) (stack : List ℕ) → KeepsClosing out (closed pos out stack)
closed_keeps pos out [] = refl
closed_keeps pos out (c ∷ []) = closing_if out (nat_lt pos.col c) _ _ tt refl
closed_keeps pos out (c ∷ d ∷ cs) =
    closing_if out (nat_lt pos.col c) _ _ (closing_same out (out ++ Close pos ∷ []) (closed pos (out ++ Close pos ∷ []) (d ∷ cs)) (no_token out (Close pos ∷ []) refl) (closed_keeps pos (out ++ Close pos ∷ []) (d ∷ cs))) refl

-- a state that has one token more
abbrev Adds : State → ℕ → Result State Pos → Type 0
Adds s i (Ok s') = numbers s'.out ≡ numbers s.out ++ i ∷ []
Adds s i (Err e) = Unit {0}

adds_if : (s : State) (i : ℕ) (b : Bool) (x y : Result State Pos) → Adds s i x → Adds s i y → Adds s i (cond b x y)
adds_if s i true x y p q = p
adds_if s i false x y p q = q

placed_adds : (s : State) (t : Token) (i : ℕ) (out : List Laid) (stack : List ℕ) → numbers out ≡ numbers s.out → numbers (placed t i out stack).out ≡ numbers s.out ++ i ∷ []
placed_adds s t i out stack e = numbers-append out (Tok i ∷ []) ∙ ap (λ (l : List ℕ). l ++ i ∷ []) e

next_keeps : (pos : Pos) (out : List Laid) (stack : List ℕ) → numbers (with_next pos out stack) ≡ numbers out
next_keeps pos out stack = by_at (is_at pos.col stack)
  where
    by_at : (b : Bool) → numbers (cond b (out ++ Next pos ∷ []) out) ≡ numbers out
    by_at true = no_token out (Next pos ∷ []) refl
    by_at false = refl

first_adds : (s : State) (t : Token) (i : ℕ) (out : List Laid) (x : Closing) → numbers out ≡ numbers s.out → KeepsClosing out x → Adds s i (first_on_line t i x)
first_adds s t i out (Err e) same k = tt
first_adds s t i out (Ok x) same k = placed_adds s t i (with_next t.pos x.0 x.1) x.1 (next_keeps t.pos x.0 x.1 ∙ k ∙ same)

step_adds : (s : State) (i : ℕ) (t : Token) → Adds s i (step s i t)
unfolding step
step_adds s i t =
    adds_if s i (s.begins && is_right_of t.pos.col s.stack) _ _ (numbers-append s.out (Open t.pos ∷ Tok i ∷ []))
    (adds_if s i (t.pos.line == s.last.line) _ _ (placed_adds s t i (emptied s t.pos) s.stack (emptied_keeps s t.pos))
    (first_adds s t i (emptied s t.pos) (closed t.pos (emptied s t.pos) s.stack) (emptied_keeps s t.pos) (closed_keeps t.pos (emptied s t.pos) s.stack)))

abbrev AddsAll : State → List ℕ → Result State Pos → Type 0
AddsAll s is (Ok s') = numbers s'.out ≡ numbers s.out ++ is
AddsAll s is (Err e) = Unit {0}

then_adds : (s : State) (i : ℕ) (is : List ℕ) (x : Result State Pos) (f : State → Result State Pos) → Adds s i x → ((s' : State) → AddsAll s' is (f s')) → AddsAll s (i ∷ is) (and_then x f)
then_adds s i is (Err e) f one more = tt
then_adds s i is (Ok s') f one more = by_rest (f s') (more s')
  where
    by_rest : (y : Result State Pos) → AddsAll s' is y → AddsAll s (i ∷ is) y
    by_rest (Err e) k = tt
    by_rest (Ok s'') k = k ∙ ap (λ (l : List ℕ). l ++ is) one ∙ append_assoc (numbers s.out) (i ∷ []) is

steps_add : (s : State) (i : ℕ) (ts : List Token) → AddsAll s (count i (length ts)) (steps s i ts)
steps_add s i [] = sym (append-nil (numbers s.out))
steps_add s i (t ∷ ts) = then_adds s i (count (i + 1) (length ts)) (step s i t) (λ s'. steps s' (i + 1) ts) (step_adds s i t) (λ s'. steps_add s' (i + 1) ts)

closes : (pos : Pos) (stack : List ℕ) → numbers (map (λ _. Close pos) stack) ≡ []
closes pos [] = refl
closes pos (c ∷ cs) = closes pos cs

ended_keeps : (s : State) → numbers (ended s) ≡ numbers s.out
ended_keeps s = no_token (emptied s s.last) (map (λ _. Close s.last) s.stack) (closes s.last s.stack) ∙ emptied_keeps s s.last

abbrev Numbers : List ℕ → Result (List Laid) Pos → Type 0
Numbers is (Ok ls) = numbers ls ≡ is
Numbers is (Err e) = Unit {0}

out_numbers : (s : State) (is : List ℕ) (x : Result State Pos) → AddsAll s is x → Numbers (numbers s.out ++ is) (out_of x)
out_numbers s is (Err e) k = tt
out_numbers s is (Ok s') k = ended_keeps s' ∙ k

alone_numbers : (i : ℕ) (ts : List Token) → numbers (alone i ts) ≡ count i (length ts)
alone_numbers i [] = refl
alone_numbers i (t ∷ ts) = ap (λ (l : List ℕ). i ∷ l) (alone_numbers (i + 1) ts)

behind_numbers : (ts : List Token) → Numbers (count 0 (length ts)) (behind_header ts)
behind_numbers [] = refl
behind_numbers (t ∷ []) = refl
behind_numbers (t ∷ u ∷ []) = refl
behind_numbers (t ∷ u ∷ v ∷ ts) = out_numbers (behind v) (count 3 (length ts)) (steps (behind v) 3 ts) (steps_add (behind v) 3 ts)

laid_numbers : (h : Header) (ts : List Token) → Numbers (count 0 (length ts)) (laid_by h ts)
laid_numbers Absent ts = out_numbers start (count 0 (length ts)) (steps start 0 ts) (steps_add start 0 ts)
laid_numbers Whole ts = behind_numbers ts
laid_numbers Broken ts = alone_numbers 0 ts

told : (ts : List Token) (x : Result (List Laid) Pos) → Numbers (count 0 (length ts)) x → KeepsTokens ts x
told ts (Ok ls) k = k
told ts (Err e) k = tt

pub keeps_tokens : (ts : List Token) → KeepsTokens ts (laid ts)
unfolding laid
keeps_tokens ts = told ts (laid_by (header_of ts) ts) (laid_numbers (header_of ts) ts)
