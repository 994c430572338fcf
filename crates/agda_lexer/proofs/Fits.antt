-- A piece of white space is one white character, and a run is longest.
use Rattle.std.proofs.Common.{◌≡◌, ℕ, ◌⊎◌, inl, inr, Bool, true, false, cond, eqb, List, [], ◌∷◌, ◌&&◌, not, Option, Some, None, Result, Ok, Err, refl}
use Rattle.std.proofs.lemmas.Bool.{eqb-true}
use Rattle.std.specs.Str.{encode_utf8_all}
use Rattle.std.specs.Char.{encode_utf8}
use Rattle.el_outside.specs.Place.{Place, Rest, after, next, sees}
use Rattle.el_outside.specs.Runs.{is_white, front, past, past_from}
use Rattle.agda_lexer.specs.declared.scan.Class.TheVariants as class
use Rattle.agda_lexer.specs.declared.token.LexKind.{LexKind}
use Rattle.agda_lexer.specs.declared.token.TokenKind.{TokenKind}
use Rattle.agda_lexer.specs.declared.token.TokenKind.TheVariants as kind
use Rattle.agda_lexer.specs.declared.piece.Piece.{Piece}
use Rattle.agda_lexer.specs.declared.piece.Piece.TheVariants as piece
use Rattle.agda_lexer.specs.Characters.{is_special, is_in}
use Rattle.agda_lexer.specs.Runs.{is_name_kind, run_kind}
use Rattle.agda_lexer.specs.Pieces.{Reading, closed, pragma_of, pragma, brace, run_past, kind_at, name_at, run_of, run, follows_dot, dot, sign_of, piece_at}
use Rattle.agda_lexer.specs.Laws.{begins_run}
use Rattle.agda_lexer.proofs.Steps.{rest, whole}

-- ---- what is to be shown of a reading whose first character is c

abbrev pub FitsPiece : ℕ → List ℕ → Piece → Rest → Type 0
FitsPiece c tail piece.White s = (is_white c ≡ true) × (s.chars ≡ tail)
FitsPiece c tail piece.Remark s = Unit {0}
FitsPiece c tail (piece.Sign k) s = Unit {0}
FitsPiece c tail (piece.Run k) s = (begins_run s.chars ≡ false) ⊎ ((c ≡ 92) × (s.chars ≡ tail))

abbrev pub Fits : ℕ → List ℕ → Reading → Type 0
Fits c tail (Ok x) = FitsPiece c tail x.0 x.1
Fits c tail (Err e) = Unit {0}

fits_if : (c : ℕ) (tail : List ℕ) (b : Bool) (x y : Reading) → (b ≡ true → Fits c tail x) → (b ≡ false → Fits c tail y) → Fits c tail (cond b x y)
fits_if c tail true x y p q = p refl
fits_if c tail false x y p q = q refl

-- ---- comments and holes

remark_fits : (c : ℕ) (tail : List ℕ) (e : LexKind) (o : Option Rest) → Fits c tail (closed e piece.Remark o)
remark_fits c tail e None = tt
remark_fits c tail e (Some s) = tt

hole_fits : (c : ℕ) (tail : List ℕ) (e : LexKind) (o : Option Rest) → Fits c tail (closed e (piece.Sign kind.Hole) o)
hole_fits c tail e None = tt
hole_fits c tail e (Some s) = tt

pragma_of_fits : (c : ℕ) (tail : List ℕ) (known : Bool) (o : Option Rest) → Fits c tail (pragma_of known o)
pragma_of_fits c tail known None = tt
pragma_of_fits c tail true (Some s) = tt
pragma_of_fits c tail false (Some s) = tt

pragma_fits : (c : ℕ) (tail : List ℕ) (r : Rest) → Fits c tail (pragma r)
unfolding pragma
pragma_fits c tail r = pragma_of_fits c tail _ _

brace_fits : (c : ℕ) (tail : List ℕ) (r : Rest) → Fits c tail (brace r)
unfolding brace
brace_fits c tail r =
    fits_if c tail (sees 45 r.chars) _ _ (λ _. fits_if c tail (sees 35 (next r).chars) _ _ (λ _. pragma_fits c tail _) (λ _. remark_fits c tail _ _))
    (λ _. fits_if c tail (sees 33 r.chars) _ _ (λ _. hole_fits c tail _ _) (λ _. tt))

-- ---- runs

stops_if : (c : ℕ) (at : Place) (cs : List ℕ) (r : Rest) (b : Bool) → is_in class.Run c ≡ b → begins_run r.chars ≡ false → begins_run (let s : Rest = cond b r (rest (c ∷ cs) at) in s).chars ≡ false
stops_if c at cs r true e h = h
stops_if c at cs r false e h = e

past_from_stops : (at : Place) (cs : List ℕ) → begins_run (past_from (is_in class.Run) at cs).chars ≡ false
past_from_stops at [] = refl
past_from_stops at (c ∷ cs) = stops_if c at cs (past_from (is_in class.Run) (after c at) cs) (is_in class.Run c) refl (past_from_stops (after c at) cs)

-- \ is no name
lambda_kind : is_name_kind (run_kind (encode_utf8_all (92 ∷ []))) ≡ false
unfolding run_kind encode_utf8
lambda_kind = refl

second_stops : (r : Rest) → is_name_kind (kind_at r) ≡ true → begins_run (run_past r).chars ≡ false
second_stops r named = stops (sees 92 r.chars) named
  where
    stops : (b : Bool) → is_name_kind (run_kind (encode_utf8_all (cond b (92 ∷ []) (front (is_in class.Run) r.chars)))) ≡ true → begins_run (let s : Rest = cond b (next r) (past (is_in class.Run) r) in s).chars ≡ false
    stops true e = let no = lambda_kind in absurd cc
    stops false e = past_from_stops r.place r.chars

abbrev Stops : ℕ → List ℕ → Rest → Type 0
Stops c tail s = (begins_run s.chars ≡ false) ⊎ ((c ≡ 92) × (s.chars ≡ tail))

right_true : (a b : Bool) → (a && b) ≡ true → b ≡ true
right_true true b e = e
right_true false b e = absurd cc

name_fits : (c : ℕ) (tail : List ℕ) (r : Rest) → Stops c tail r → Stops c tail (name_at r).1
name_fits c tail r h = stops (sees 46 r.chars && is_name_kind (kind_at (next r))) refl
  where
    stops : (b : Bool) → (sees 46 r.chars && is_name_kind (kind_at (next r))) ≡ b → Stops c tail (let x : TokenKind × Rest = cond b (kind.Qualified, run_past (next r)) (kind.Name, r) in x).1
    stops true e = inl (second_stops (next r) (right_true _ _ e))
    stops false e = h

run_of_fits : (c : ℕ) (tail : List ℕ) (r : Rest) (k : Result TokenKind LexKind) → Stops c tail r → Fits c tail (run_of r k)
run_of_fits c tail r (Err e) h = tt
run_of_fits c tail r (Ok kind.Name) h = name_fits c tail r h
run_of_fits c tail r (Ok kind.Qualified) h = h
run_of_fits c tail r (Ok (kind.Keyword w)) h = h
run_of_fits c tail r (Ok (kind.Symbol s)) h = h
run_of_fits c tail r (Ok (kind.SetLevel l)) h = h
run_of_fits c tail r (Ok kind.Hole) h = h
run_of_fits c tail r (Ok kind.Underscore) h = h

run_past_fits : (c : ℕ) (tail : List ℕ) (at : Place) → Stops c tail (run_past (rest (c ∷ tail) at))
run_past_fits c tail at = stops (eqb c 92) refl
  where
    stops : (b : Bool) → eqb c 92 ≡ b → Stops c tail (cond b (rest tail (after c at)) (past (is_in class.Run) (rest (c ∷ tail) at)))
    stops true e = inr (eqb-true c 92 e, refl)
    stops false e = inl (past_from_stops at (c ∷ tail))

run_fits : (c : ℕ) (tail : List ℕ) (at : Place) → Fits c tail (run (rest (c ∷ tail) at))
unfolding run
run_fits c tail at = run_of_fits c tail (run_past (rest (c ∷ tail) at)) (kind_at (rest (c ∷ tail) at)) (run_past_fits c tail at)

-- ---- all pieces

sign_fits : (c : ℕ) (tail : List ℕ) (r : Rest) (o : Option TokenKind) → Fits c tail (sign_of r o)
sign_fits c tail r None = tt
sign_fits c tail r (Some k) = tt

dot_fits : (c : ℕ) (tail : List ℕ) (joined : Bool) (r : Rest) → Fits c tail (dot joined r)
dot_fits c tail joined r = fits_if c tail (not joined && follows_dot r.chars) _ _ (λ _. tt) (λ _. tt)

fits_at : (joined : Bool) (c : ℕ) (tail : List ℕ) (at : Place) → Fits c tail (piece_at joined c (rest (c ∷ tail) at))
unfolding piece_at
fits_at joined c tail at =
    fits_if c tail (is_white c) _ _ (λ white. (white, refl)) (λ _.
    fits_if c tail (eqb c 123) _ _ (λ _. brace_fits c tail _) (λ _.
    fits_if c tail (eqb c 45 && sees 45 tail) _ _ (λ _. tt) (λ _.
    fits_if c tail (eqb c 46) _ _ (λ _. dot_fits c tail joined (rest tail (after c at))) (λ _.
    fits_if c tail (is_special c) _ _ (λ _. sign_fits c tail _ _) (λ _. run_fits c tail at)))))

pub piece_fits : (joined : Bool) (r s : Rest) (c : ℕ) (tail : List ℕ) (p : Piece) → r.chars ≡ c ∷ tail → piece_at joined c r ≡ Ok (p, s) → FitsPiece c tail p s
piece_fits joined r s c tail p one is =
    let w : Fits c tail (piece_at joined c r) = rw (whole r (c ∷ tail) one) (fits_at joined c tail r.place) in
    rw is at w
