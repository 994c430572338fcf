-- A line is refused exactly where it begins left of the file's block.
use Rattle.std.proofs.Common.{◌≡◌, ℕ, ◌+◌, ◌<◌, ◌≤◌, Bool, true, false, cond, not, ◌&&◌, List, [], ◌∷◌, ◌++◌, Option, Some, None, Result, Ok, Err, refl, ap, ◌∙◌, ltb, arith, ◌==◌}
use Rattle.std.proofs.lemmas.Bool.Decides.{nat_tests}
use Rattle.std.proofs.lemmas.Bool.{ltb-true}
use Rattle.el_outside.specs.declared.Pos.{Pos}
use Rattle.agda_lexer.specs.declared.Token.{Token}
use Rattle.agda_layout.specs.declared.laid.Laid.{Laid}
use Rattle.agda_layout.specs.declared.laid.Laid.TheVariants.{Tok, Close}
use Rattle.agda_layout.specs.declared.header.Header.{Header}
use Rattle.agda_layout.specs.declared.header.Header.TheVariants.{Absent, Whole, Broken}
use Rattle.agda_layout.specs.Headers.{header_of}
use Rattle.agda_layout.specs.Blocks.{State, is_right_of, begun, emptied, Closing, closed, first_on_line, step, and_then, steps, out_of, laid_by, laid}
use Rattle.agda_layout.specs.Laws.{left_of, outside_of, block_tokens, refusal, IsRefusedOutside}

-- columns from the inside out, each right of the next, down to that of the file's block
abbrev IsStack : ℕ → List ℕ → Type 0
IsStack b [] = ⊥
IsStack b (c ∷ []) = c ≡ b
IsStack b (c ∷ d ∷ cs) = (d < c) × IsStack b (d ∷ cs)

bottom_le : (b c : ℕ) (cs : List ℕ) → IsStack b (c ∷ cs) → b ≤ c
bottom_le b c [] h = omega arith
bottom_le b c (d ∷ cs) h = omega (arith, bottom_le b d cs h.1, h.0)

abbrev CloseIs : ℕ → Pos → Closing → Type 0
CloseIs b pos (Ok x) = (ltb pos.col b ≡ false) × IsStack b x.1
CloseIs b pos (Err e) = (ltb pos.col b ≡ true) × (e ≡ pos)

close_if : (b : ℕ) (pos : Pos) (t : Bool) (x y : Closing) → (t ≡ true → CloseIs b pos x) → (t ≡ false → CloseIs b pos y) → CloseIs b pos (cond t x y)
close_if b pos true x y p q = p refl
close_if b pos false x y p q = q refl

not_left : (col b c : ℕ) → b ≤ c → ltb col c ≡ false → ltb col b ≡ false
not_left col b c le e = grind (arith, nat_tests)

closed_is : (b : ℕ) (pos : Pos) (out : List Laid) (stack : List ℕ) → IsStack b stack → CloseIs b pos (closed pos out stack)
closed_is b pos out [] h = absurd h
closed_is b pos out (c ∷ []) h = close_if b pos (ltb pos.col c) _ _ (λ left. (rw (← h) left, refl)) (λ right. (rw (← h) right, h))
closed_is b pos out (c ∷ d ∷ cs) h =
    close_if b pos (ltb pos.col c) _ _ (λ left. closed_is b pos (out ++ Close pos ∷ []) (d ∷ cs) h.1)
    (λ right. (not_left pos.col b c (bottom_le b c (d ∷ cs) h) right, h))

-- whether a token begins a line left of the file's block
abbrev left : ℕ → ℕ → Token → Bool
left b line t = not (t.pos.line == line) && ltb t.pos.col b

abbrev StepIs : ℕ → ℕ → Token → Result State Pos → Type 0
StepIs b line t (Ok s) = (left b line t ≡ false) × ((s.last ≡ t.pos) × IsStack b s.stack)
StepIs b line t (Err e) = (left b line t ≡ true) × (e ≡ t.pos)

step_if : (b line : ℕ) (t : Token) (v : Bool) (x y : Result State Pos) → (v ≡ true → StepIs b line t x) → (v ≡ false → StepIs b line t y) → StepIs b line t (cond v x y)
step_if b line t true x y p q = p refl
step_if b line t false x y p q = q refl

and_false : (a : Bool) → (a && false) ≡ false
and_false true = refl
and_false false = refl

right_true : (a b : Bool) → (a && b) ≡ true → b ≡ true
right_true true b e = e
right_true false b e = absurd cc

begun_is : (b : ℕ) (s : State) (i : ℕ) (t : Token) (stack : List ℕ) → s.stack ≡ stack → IsStack b stack → is_right_of t.pos.col stack ≡ true → StepIs b s.last.line t (Ok (begun s i t))
begun_is b s i t [] is h right = absurd h
begun_is b s i t (c ∷ cs) is h right =
    let lt : c < t.pos.col = ltb-true c t.pos.col right in
    let le : b ≤ c = bottom_le b c cs h in
    let no : ltb t.pos.col b ≡ false = grind (arith, nat_tests) in
    (rw no (and_false (not (t.pos.line == s.last.line))), (refl, rw is (lt, h)))

first_is : (b line : ℕ) (t : Token) (i : ℕ) (x : Closing) → (t.pos.line == line) ≡ false → CloseIs b t.pos x → StepIs b line t (first_on_line t i x)
first_is b line t i (Ok x) new k = (rw new k.0, (refl, k.1))
first_is b line t i (Err e) new k = (rw new k.0, k.1)

step_is : (b : ℕ) (s : State) (i : ℕ) (t : Token) → IsStack b s.stack → StepIs b s.last.line t (step s i t)
unfolding step
step_is b s i t h =
    step_if b s.last.line t (s.begins && is_right_of t.pos.col s.stack) _ _ (λ begins. begun_is b s i t s.stack refl h (right_true s.begins _ begins)) (λ _.
    step_if b s.last.line t (t.pos.line == s.last.line) _ _ (λ same. (rw same refl, (refl, h)))
    (λ new. first_is b s.last.line t i (closed t.pos (emptied s t.pos) s.stack) new (closed_is b t.pos (emptied s t.pos) s.stack h)))

abbrev refused : Result State Pos → Option Pos
refused (Ok s) = None
refused (Err e) = Some e

then_is : (b line : ℕ) (t : Token) (ts : List Token) (x : Result State Pos) (f : State → Result State Pos) → StepIs b line t x
    → ((s : State) → s.last ≡ t.pos → IsStack b s.stack → refused (f s) ≡ left_of b t.pos.line ts) → refused (and_then x f) ≡ left_of b line (t ∷ ts)
then_is b line t ts (Ok s) f k more = rw k.0 (more s k.1.0 k.1.1)
then_is b line t ts (Err e) f k more = rw k.0 (ap Some k.1)

steps_are : (b : ℕ) (s : State) (i : ℕ) (ts : List Token) → IsStack b s.stack → refused (steps s i ts) ≡ left_of b s.last.line ts
steps_are b s i [] h = refl
steps_are b s i (t ∷ ts) h =
    then_is b s.last.line t ts (step s i t) (λ s'. steps s' (i + 1) ts) (step_is b s i t h)
    (λ s' at h'. steps_are b s' (i + 1) ts h' ∙ ap (λ (p : Pos). left_of b p.line ts) at)

out_refusal : (x : Result State Pos) → refusal (out_of x) ≡ refused x
out_refusal (Ok s) = refl
out_refusal (Err e) = refl

-- the first token begins the file's block
file_step : (out : List Laid) (last : Pos) (i : ℕ) (t : Token) → (let s : State = record { out = out; stack = []; last = last; begins = true } in step s i t ≡ Ok (begun s i t))
unfolding step
file_step out last i t = refl

file_is : (out : List Laid) (last : Pos) (i : ℕ) (ts : List Token) → (let s : State = record { out = out; stack = []; last = last; begins = true } in refusal (out_of (steps s i ts))) ≡ outside_of ts
file_is out last i [] = refl
file_is out last i (t ∷ ts) =
    let s : State = record { out = out; stack = []; last = last; begins = true } in
    out_refusal (steps s i (t ∷ ts)) ∙ ap (λ (x : Result State Pos). refused (and_then x (λ s'. steps s' (i + 1) ts))) (file_step out last i t) ∙ steps_are t.pos.col (begun s i t) (i + 1) ts refl

by_header : (h : Header) (ts : List Token) → refusal (laid_by h ts) ≡ outside_of (block_tokens h ts)
by_header Absent ts = file_is [] (record { line = 1; col = 1 }) 0 ts
by_header Broken ts = refl
by_header Whole [] = refl
by_header Whole (t ∷ []) = refl
by_header Whole (t ∷ u ∷ []) = refl
by_header Whole (t ∷ u ∷ v ∷ ts) = file_is (Tok 0 ∷ Tok 1 ∷ Tok 2 ∷ []) v.pos 3 ts

pub is_refused_outside : (ts : List Token) → IsRefusedOutside ts
unfolding laid
is_refused_outside ts = by_header (header_of ts) ts
