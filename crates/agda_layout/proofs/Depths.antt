-- Every block that begins ends.
use Rattle.std.proofs.Common.{◌≡◌, ℕ, zero, suc, ◌+◌, Bool, true, false, cond, ◌&&◌, List, [], ◌∷◌, ◌++◌, length, map, Some, Result, Ok, Err, refl, ap, ◌∙◌, nat_lt, ◌==◌}
use Rattle.el_outside.specs.declared.Pos.{Pos}
use Rattle.agda_lexer.specs.declared.Token.{Token}
use Rattle.agda_layout.specs.declared.laid.Laid.{Laid}
use Rattle.agda_layout.specs.declared.laid.Laid.TheVariants.{Tok, Open, Next, Close}
use Rattle.agda_layout.specs.declared.header.Header.{Header}
use Rattle.agda_layout.specs.declared.header.Header.TheVariants.{Absent, Whole, Broken}
use Rattle.agda_layout.specs.Headers.{header_of}
use Rattle.agda_layout.specs.Blocks.{State, is_right_of, emptied, Closing, closed, is_at, with_next, placed, first_on_line, step, and_then, steps, out_of, alone, start, behind, behind_header, laid_by, laid}
use Rattle.agda_layout.specs.Laws.{depth_after, IsBalanced}

-- behind signs that leave m blocks open
depth-append : (n m : ℕ) (xs ys : List Laid) → depth_after n xs ≡ Some m → depth_after n (xs ++ ys) ≡ depth_after m ys
depth-append n m [] ys e = let is : n ≡ m = cc in ap (λ (k : ℕ). depth_after k ys) is
depth-append n m (Tok i ∷ xs) ys e = depth-append n m xs ys e
depth-append n m (Open pos ∷ xs) ys e = depth-append (suc n) m xs ys e
depth-append n m (Next pos ∷ xs) ys e = depth-append n m xs ys e
depth-append zero m (Close pos ∷ xs) ys e = absurd cc
depth-append (suc n) m (Close pos ∷ xs) ys e = depth-append n m xs ys e

abbrev OpenAt : List Laid → ℕ → Type 0
OpenAt out n = depth_after 0 out ≡ Some n

emptied_open : (s : State) (pos : Pos) (n : ℕ) → OpenAt s.out n → OpenAt (emptied s pos) n
emptied_open s pos n e = by_begins s.begins
  where
    by_begins : (b : Bool) → OpenAt (cond b (s.out ++ Open pos ∷ Close pos ∷ []) s.out) n
    by_begins true = depth-append 0 n s.out (Open pos ∷ Close pos ∷ []) e
    by_begins false = e

abbrev OpenClosing : Closing → Type 0
OpenClosing (Ok x) = OpenAt x.0 (length x.1)
OpenClosing (Err e) = Unit {0}

closing_if : (b : Bool) (x y : Closing) → OpenClosing x → OpenClosing y → OpenClosing (cond b x y)
closing_if true x y p q = p
closing_if false x y p q = q

closed_open : (pos : Pos) (out : List Laid) (stack : List ℕ) → OpenAt out (length stack) → OpenClosing (closed pos out stack)
closed_open pos out [] e = e
closed_open pos out (c ∷ []) e = closing_if (nat_lt pos.col c) _ _ tt e
closed_open pos out (c ∷ d ∷ cs) e =
    closing_if (nat_lt pos.col c) _ _ (closed_open pos (out ++ Close pos ∷ []) (d ∷ cs) (depth-append 0 (length (c ∷ d ∷ cs)) out (Close pos ∷ []) e)) e

abbrev OpenState : Result State Pos → Type 0
OpenState (Ok s) = OpenAt s.out (length s.stack)
OpenState (Err e) = Unit {0}

open_if : (b : Bool) (x y : Result State Pos) → OpenState x → OpenState y → OpenState (cond b x y)
open_if true x y p q = p
open_if false x y p q = q

next_open : (pos : Pos) (out : List Laid) (stack : List ℕ) (n : ℕ) → OpenAt out n → OpenAt (with_next pos out stack) n
next_open pos out stack n e = by_at (is_at pos.col stack)
  where
    by_at : (b : Bool) → OpenAt (cond b (out ++ Next pos ∷ []) out) n
    by_at true = depth-append 0 n out (Next pos ∷ []) e
    by_at false = e

placed_open : (t : Token) (i : ℕ) (out : List Laid) (stack : List ℕ) → OpenAt out (length stack) → OpenState (Ok (placed t i out stack))
placed_open t i out stack e = depth-append 0 (length stack) out (Tok i ∷ []) e

first_open : (t : Token) (i : ℕ) (x : Closing) → OpenClosing x → OpenState (first_on_line t i x)
first_open t i (Err e) k = tt
first_open t i (Ok x) k = placed_open t i (with_next t.pos x.0 x.1) x.1 (next_open t.pos x.0 x.1 (length x.1) k)

step_open : (s : State) (i : ℕ) (t : Token) → OpenAt s.out (length s.stack) → OpenState (step s i t)
unfolding step
step_open s i t e =
    open_if (s.begins && is_right_of t.pos.col s.stack) _ _ (depth-append 0 (length s.stack) s.out (Open t.pos ∷ Tok i ∷ []) e)
    (open_if (t.pos.line == s.last.line) _ _ (placed_open t i (emptied s t.pos) s.stack (emptied_open s t.pos (length s.stack) e))
    (first_open t i (closed t.pos (emptied s t.pos) s.stack) (closed_open t.pos (emptied s t.pos) s.stack (emptied_open s t.pos (length s.stack) e))))

then_open : (x : Result State Pos) (f : State → Result State Pos) → OpenState x → ((s : State) → OpenAt s.out (length s.stack) → OpenState (f s)) → OpenState (and_then x f)
then_open (Ok s) f k more = more s k
then_open (Err e) f k more = tt

steps_open : (s : State) (i : ℕ) (ts : List Token) → OpenAt s.out (length s.stack) → OpenState (steps s i ts)
steps_open s i [] e = e
steps_open s i (t ∷ ts) e = then_open (step s i t) (λ s'. steps s' (i + 1) ts) (step_open s i t e) (λ s' e'. steps_open s' (i + 1) ts e')

closes : (pos : Pos) (stack : List ℕ) → depth_after (length stack) (map (λ _. Close pos) stack) ≡ Some 0
closes pos [] = refl
closes pos (c ∷ cs) = closes pos cs

out_balanced : (x : Result State Pos) → OpenState x → IsBalanced (out_of x)
out_balanced (Err e) k = tt
out_balanced (Ok s) k = depth-append 0 (length s.stack) (emptied s s.last) (map (λ _. Close s.last) s.stack) (emptied_open s s.last (length s.stack) k) ∙ closes s.last s.stack

alone_balanced : (n i : ℕ) (ts : List Token) → depth_after n (alone i ts) ≡ Some n
alone_balanced n i [] = refl
alone_balanced n i (t ∷ ts) = alone_balanced n (i + 1) ts

behind_balanced : (ts : List Token) → IsBalanced (behind_header ts)
behind_balanced [] = refl
behind_balanced (t ∷ []) = refl
behind_balanced (t ∷ u ∷ []) = refl
behind_balanced (t ∷ u ∷ v ∷ ts) = out_balanced (steps (behind v) 3 ts) (steps_open (behind v) 3 ts refl)

by_header : (h : Header) (ts : List Token) → IsBalanced (laid_by h ts)
by_header Absent ts = out_balanced (steps start 0 ts) (steps_open start 0 ts refl)
by_header Whole ts = behind_balanced ts
by_header Broken ts = alone_balanced 0 0 ts

pub is_balanced : (ts : List Token) → IsBalanced (laid ts)
unfolding laid
is_balanced ts = by_header (header_of ts) ts
