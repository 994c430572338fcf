-- The tokens of a text: it is cut into pieces from its beginning on, up to the first place without one.
use Rattle.std.specs.Prelude.{◌≡◌, ℕ, zero, suc, Bool, false, List, [], ◌∷◌, length, Option, Some, None, Result, Ok, Err}
use Rattle.std.specs.Str.{chars}
use Rattle.el_outside.specs.Place.{Place, Rest, start, pos}
use Rattle.el_outside.specs.declared.Pos.{Pos}
use Rattle.agda_lexer.specs.declared.token.TokenKind.{TokenKind}
use Rattle.agda_lexer.specs.declared.token.Token.{Token}
use Rattle.agda_lexer.specs.declared.token.Lexed.{Lexed}
use Rattle.agda_lexer.specs.declared.token.LexKind.{LexKind}
use Rattle.agda_lexer.specs.declared.token.LexError.{LexError}
use Rattle.agda_lexer.specs.declared.token.LexError.TheVariants.{Bad, NoMemory}
use Rattle.agda_lexer.specs.declared.piece.Piece.{Piece}
use Rattle.agda_lexer.specs.declared.piece.Piece.TheVariants.{White, Remark, Sign, Run}
use Rattle.agda_lexer.specs.Pieces.{Reading, piece_at, is_run}

-- a piece, and the places where it begins and ends
pub record Placed : Type 0 where
  pub piece : Piece
  pub from : Place
  pub to : Place

-- the pieces up to the first place without one, and that place, unless it is the end
pub record Cut : Type 0 where
  pub pieces : List Placed
  pub fault : Option (Pos × LexKind)

abbrev pub nothing : Cut
nothing = record { pieces = []; fault = None }

-- with a piece in front
abbrev pub with_piece : Placed → Cut → Cut
with_piece p x = record { pieces = p ∷ x.pieces; fault = x.fault }

abbrev pub goes_on : Place → (Bool → Rest → Cut) → Reading → Cut
goes_on from others (Err e) = record { pieces = []; fault = Some (pos from, e) }
goes_on from others (Ok p) = with_piece (record { piece = p.0; from = from; to = p.1.place }) (others (is_run p.0) p.1)

abbrev pub turn : Bool → Rest → (Bool → Rest → Cut) → List ℕ → Cut
turn joined r others [] = nothing
turn joined r others (c ∷ cs) = goes_on r.place others (piece_at joined c r)

-- The number bounds the pieces, of which each takes a character; `joined` says whether a character of a run stands
-- before the place.
unfoldable pub cut_from : ℕ → Bool → Rest → Cut
cut_from zero joined r = nothing
cut_from (suc n) joined r = turn joined r (cut_from n) r.chars

abbrev pub cut_of : List ℕ → Cut
cut_of text = cut_from (length (chars text)) false (start (chars text))

-- ---- tokens

abbrev pub token : TokenKind → Placed → Token
token kind p = record { kind = kind; span = record { start = p.from.at; end = p.to.at }; pos = pos p.from }

-- with the token that a piece is, in front of others
abbrev pub with_token : Piece → Placed → List Token → List Token
with_token White p ts = ts
with_token Remark p ts = ts
with_token (Sign kind) p ts = token kind p ∷ ts
with_token (Run kind) p ts = token kind p ∷ ts

abbrev pub tokens_of : List Placed → List Token
tokens_of [] = []
tokens_of (p ∷ ps) = with_token p.piece p (tokens_of ps)

abbrev pub or_remark : Piece → Placed → Option Pos → Option Pos
or_remark Remark p o = Some (pos p.from)
or_remark _ p o = o

-- where the first comment or pragma begins
abbrev pub remark_of : List Placed → Option Pos
remark_of [] = None
remark_of (p ∷ ps) = or_remark p.piece p (remark_of ps)

abbrev pub Outcome : Type 0
Outcome = Result Lexed (Pos × LexKind)

abbrev pub outcome : List Placed → Option (Pos × LexKind) → Outcome
outcome ps None = Ok (record { tokens = tokens_of ps; comment = remark_of ps })
outcome ps (Some e) = Err e

-- the tokens of a text, or the first place where none begins
unfoldable pub lex_of : List ℕ → Outcome
lex_of text = outcome (cut_of text).pieces (cut_of text).fault

-- ---- what a caller is told

-- the place that an error names is the first fault; want of memory may be answered at any time
abbrev pub Refuses : Outcome → LexError → Type 0
Refuses outcome (Bad pos kind) = outcome ≡ Err (pos, kind)
Refuses outcome NoMemory = Unit {0}

abbrev pub Gives : Outcome → Result Lexed LexError → Type 0
Gives outcome (Ok l) = outcome ≡ Ok l
Gives outcome (Err e) = Refuses outcome e
