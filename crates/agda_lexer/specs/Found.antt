-- What the loop over the pieces of a text has found.
use Rattle.std.specs.Prelude.{[], ◌∷◌, ◌++◌, Option, Some, None}
use Rattle.el_outside.specs.declared.Pos.{Pos}
use Rattle.el_outside.specs.declared.Span.{Span}
use Rattle.agda_lexer.specs.declared.token.Lexed.{Lexed}
use Rattle.agda_lexer.specs.declared.piece.Piece.{Piece}
use Rattle.agda_lexer.specs.declared.piece.Piece.TheVariants.{White, Remark, Sign, Run}
use Rattle.agda_lexer.specs.declared.lexer.Found.{Found}

abbrev pub found_of : Found → Lexed
found_of f = record { tokens = f.tokens.items; comment = f.comment }

abbrev pub or_first : Option Pos → Option Pos → Option Pos
or_first None q = q
or_first (Some p) q = Some p

-- with one piece more
abbrev pub added : Lexed → Piece → Pos → Span → Lexed
added f White pos span = f
added f Remark pos span = record { tokens = f.tokens; comment = or_first f.comment (Some pos) }
added f (Sign kind) pos span = record { tokens = f.tokens ++ record { kind = kind; span = span; pos = pos } ∷ []; comment = f.comment }
added f (Run kind) pos span = record { tokens = f.tokens ++ record { kind = kind; span = span; pos = pos } ∷ []; comment = f.comment }
