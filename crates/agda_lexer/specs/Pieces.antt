-- What stands at a place of a text: the first row of the table of tokens that fits.
use Rattle.std.specs.Prelude.{◌≡◌, ℕ, ◌+◌, ◌-◌, Bool, true, false, not, ◌||◌, ◌&&◌, if◌then◌else◌, ◌==◌, List, [], ◌∷◌, Option, Some, None, Result, Ok, Err, codes}
use Rattle.std.specs.Str.{bytes_eq, encode_utf8_all}
use Rattle.std.specs.List.{list_any}
use Rattle.el_outside.specs.Place.{Place, Rest, after, sees, next}
use Rattle.el_outside.specs.Runs.{is_white, front, past}
use Rattle.agda_lexer.specs.declared.scan.Class.TheVariants as class
use Rattle.agda_lexer.specs.declared.token.Sym.TheVariants as symbol
use Rattle.agda_lexer.specs.declared.token.TokenKind.{TokenKind}
use Rattle.agda_lexer.specs.declared.token.TokenKind.TheVariants.{Name, Qualified, Symbol, Hole}
use Rattle.agda_lexer.specs.declared.token.LexKind.{LexKind}
use Rattle.agda_lexer.specs.declared.token.LexKind.TheVariants.{BadToken, BadPragma, OpenComment, OpenHole}
use Rattle.agda_lexer.specs.declared.piece.Piece.{Piece}
use Rattle.agda_lexer.specs.declared.piece.Piece.TheVariants.{White, Remark, Sign, Run}
use Rattle.agda_lexer.specs.Characters.{is_special, is_in}
use Rattle.agda_lexer.specs.Runs.{run_kind, is_name_kind}

-- The piece that is read, and what is left; or why there is none.
abbrev pub Reading : Type 0
Reading = Result (Piece × Rest) LexKind

-- ---- comments, pragmas and holes

-- What follows the end of a comment or a hole in which `depth` others are open. A comment goes from {- to -}, a
-- hole from {! to !}: `mark` is the sign beside the brace.
abbrev pub close_of : ℕ → ℕ → Place → List ℕ → Option Rest
close_of mark depth at [] = None
close_of mark depth at (c ∷ []) = None
close_of mark depth at (c ∷ d ∷ cs) =
    if c == 123 && d == mark then close_of mark (depth + 1) (after d (after c at)) cs
    else (if c == mark && d == 125 then (if depth == 0 then Some (record { chars = cs; place = after d (after c at) }) else close_of mark (depth - 1) (after d (after c at)) cs)
    else close_of mark depth (after c at) (d ∷ cs))

abbrev pub closed : LexKind → Piece → Option Rest → Reading
closed e p None = Err e
closed e p (Some r) = Ok (p, r)

abbrev pub nested : ℕ → LexKind → Piece → Rest → Reading
nested mark e p r = closed e p (close_of mark 0 r.place r.chars)

-- whether these three characters are #-}
abbrev pub are_close : ℕ → ℕ → ℕ → Bool
are_close c d e = c == 35 && d == 45 && e == 125

-- what follows the first #-}
abbrev pub pragma_close : Place → List ℕ → Option Rest
pragma_close at [] = None
pragma_close at (c ∷ []) = None
pragma_close at (c ∷ d ∷ []) = None
pragma_close at (c ∷ d ∷ e ∷ cs) =
    if are_close c d e then Some (record { chars = cs; place = after e (after d (after c at)) })
    else pragma_close (after c at) (d ∷ e ∷ cs)

-- whether #-} comes first
abbrev pub is_close : List ℕ → Bool
is_close (c ∷ d ∷ e ∷ cs) = are_close c d e
is_close _ = false

-- a word ends at white space, and where the pragma ends
abbrev pub word_front : List ℕ → List ℕ
word_front [] = []
word_front (c ∷ cs) = if is_white c || is_close (c ∷ cs) then [] else c ∷ word_front cs

abbrev pub first_word : Rest → List ℕ
first_word r = word_front (past (is_in class.White) r).chars

-- the pragmas that are comments
abbrev pub remarks : List (List ℕ)
remarks = codes "TERMINATING" ∷ codes "NON_TERMINATING" ∷ codes "BUILTIN" ∷ []

abbrev pub is_remark : List ℕ → Bool
is_remark run = list_any (bytes_eq run) remarks

abbrev pub pragma_of : Bool → Option Rest → Reading
pragma_of known None = Err OpenComment
pragma_of known (Some r) = if known then Ok (Remark, r) else Err BadPragma

-- behind {-#
unfoldable pub pragma : Rest → Reading
pragma r = pragma_of (is_remark (encode_utf8_all (first_word r))) (pragma_close r.place r.chars)

-- behind {-
abbrev pub comment : Rest → Reading
comment r = if sees 35 r.chars then pragma (next r) else nested 45 OpenComment Remark r

-- behind {
unfoldable pub brace : Rest → Reading
brace r =
    if sees 45 r.chars then comment (next r)
    else (if sees 33 r.chars then nested 33 OpenHole (Sign Hole) (next r)
    else Ok (Sign (Symbol symbol.BraceOpen), r))

-- ---- runs

-- A run that begins with \ is this one character.
abbrev pub run_front : List ℕ → List ℕ
run_front cs = if sees 92 cs then 92 ∷ [] else front (is_in class.Run) cs

abbrev pub run_past : Rest → Rest
run_past r = if sees 92 r.chars then next r else past (is_in class.Run) r

abbrev pub kind_at : Rest → Result TokenKind LexKind
kind_at r = run_kind (encode_utf8_all (run_front r.chars))

-- behind a name: with a dot and another name it is a qualified name
abbrev pub name_at : Rest → TokenKind × Rest
name_at r = if sees 46 r.chars && is_name_kind (kind_at (next r)) then (Qualified, run_past (next r)) else (Name, r)

abbrev pub run_of : Rest → Result TokenKind LexKind → Reading
run_of r (Err e) = Err e
run_of r (Ok Name) = Ok (Run (name_at r).0, (name_at r).1)
run_of r (Ok kind) = Ok (Run kind, r)

unfoldable pub run : Rest → Reading
run r = run_of (run_past r) (kind_at r)

-- ---- the other signs

-- whether a run or ( comes first
abbrev pub follows_dot : List ℕ → Bool
follows_dot [] = false
follows_dot (c ∷ cs) = is_in class.Run c || c == 40

-- behind a dot; `joined` says whether a character of a run stands before it
abbrev pub dot : Bool → Rest → Reading
dot joined r = if not joined && follows_dot r.chars then Ok (Sign (Symbol symbol.Dot), r) else Err BadToken

abbrev pub sign : ℕ → Option TokenKind
sign c =
    if c == 40 then Some (Symbol symbol.ParenOpen) else (if c == 41 then Some (Symbol symbol.ParenClose)
    else (if c == 125 then Some (Symbol symbol.BraceClose) else (if c == 59 then Some (Symbol symbol.Semicolon) else None)))

abbrev pub sign_of : Rest → Option TokenKind → Reading
sign_of r None = Err BadToken
sign_of r (Some kind) = Ok (Sign kind, r)

-- ---- all pieces

-- `c` is the first character
unfoldable pub piece_at : Bool → ℕ → Rest → Reading
piece_at joined c r =
    if is_white c then Ok (White, next r)
    else (if c == 123 then brace (next r)
    else (if c == 45 && sees 45 (next r).chars then Ok (Remark, past (is_in class.Line) r)
    else (if c == 46 then dot joined (next r)
    else (if is_special c then sign_of (next r) (sign c)
    else run r))))

-- whether a piece ends with a character of a run
abbrev pub is_run : Piece → Bool
is_run (Run kind) = true
is_run _ = false

-- what the code that reads a piece is to answer, and where it is then
abbrev pub Reads : Reading → Result Piece LexKind → Rest → Type 0
Reads reading (Ok p) new = reading ≡ Ok (p, new)
Reads reading (Err e) new = reading ≡ Err e
