-- What is so of the tokens of every text.
use Rattle.std.specs.Prelude.{◌≡◌, ℕ, ◌<◌, ◌≤◌, ◌⊎◌, Bool, true, false, List, [], ◌∷◌, ◌++◌, length, drop, Option, Some, None}
use Rattle.std.specs.Str.{chars, IsCharBoundary}
use Rattle.std.specs.List.{All}
use Rattle.el_outside.specs.Place.{Place, start, pos, pos_of}
use Rattle.el_outside.specs.Runs.{is_white}
use Rattle.el_outside.specs.declared.Pos.{Pos}
use Rattle.agda_lexer.specs.declared.scan.Class.TheVariants as class
use Rattle.agda_lexer.specs.declared.token.LexKind.{LexKind}
use Rattle.agda_lexer.specs.declared.token.Token.{Token}
use Rattle.agda_lexer.specs.declared.piece.Piece.{Piece}
use Rattle.agda_lexer.specs.declared.piece.Piece.TheVariants.{White, Run}
use Rattle.agda_lexer.specs.Characters.{is_in}
use Rattle.agda_lexer.specs.Tokens.{Placed, cut_of, tokens_of}

-- the tokens of a text up to its first fault
abbrev pub tokens_up_to_fault : List ℕ → List Token
tokens_up_to_fault text = tokens_of (cut_of text).pieces

-- ---- spans

-- each span begins where the one before ends or later, and is not empty
abbrev pub Rise : ℕ → List Token → Type 0
Rise at [] = Unit {0}
Rise at (t ∷ ts) = (at ≤ t.span.start) × ((t.span.start < t.span.end) × Rise t.span.end ts)

pub record IsOnBorders (text : List ℕ) (t : Token) : Type 0 where
  pub start : IsCharBoundary text t.span.start
  pub end : IsCharBoundary text t.span.end

-- ---- places

abbrev pub IsPlaced : List ℕ → Token → Type 0
IsPlaced text t = t.pos ≡ pos_of text t.span.start

-- ---- pieces

-- each piece begins where the one before ends
abbrev pub Join : Place → List Placed → Place → Type 0
Join from [] to = from ≡ to
Join from (p ∷ ps) to = (p.from ≡ from) × Join p.to ps to

-- the pieces end at the end of the text, or at the fault
abbrev pub EndsAt : List ℕ → Option (Pos × LexKind) → Place → Type 0
EndsAt text None to = to.at ≡ length text
EndsAt text (Some e) to = pos to ≡ e.0

-- a piece of white space is one white character
abbrev pub IsWhite : List ℕ → Piece → Placed → Type 0
IsWhite text White p = (c : ℕ) × ((is_white c ≡ true) × (chars (drop p.from.at text) ≡ c ∷ chars (drop p.to.at text)))
IsWhite text _ p = Unit {0}

pub record IsCovered (text : List ℕ) : Type 0 where
  pub to : Place
  pub join : Join (start (chars text)).place (cut_of text).pieces to
  pub ends : EndsAt text (cut_of text).fault to
  pub white : All (λ p. IsWhite text p.piece p) (cut_of text).pieces

-- whether a character of a run comes first
abbrev pub begins_run : List ℕ → Bool
begins_run [] = false
begins_run (c ∷ cs) = is_in class.Run c

-- a run is longest: no character of a run follows it, but for the run \
abbrev pub IsLongest : List ℕ → Piece → Placed → Type 0
IsLongest text (Run kind) p = (begins_run (chars (drop p.to.at text)) ≡ false) ⊎ (chars (drop p.from.at text) ≡ 92 ∷ chars (drop p.to.at text))
IsLongest text _ p = Unit {0}

-- ---- lines

-- that these tokens are followed by others, which begin behind the byte `at`
pub record IsContinued (at : ℕ) (ts all : List Token) : Type 0 where
  pub others : List Token
  pub whole : all ≡ ts ++ others
  pub behind : Rise at others
