-- The signs of a list of tokens that is laid out in blocks.
use Rattle.std.specs.Prelude.{List, map, Option, Some, None, slice_get}
use Rattle.el_outside.specs.declared.place.Pos.{Pos}
use Rattle.agda_layout.specs.declared.laid.Laid.{Laid}
use Rattle.agda_layout.specs.declared.laid.Laid.TheVariants as l
use Rattle.agda_lexer.specs.declared.token.Token.{Token}
use Rattle.agda_grammar.specs.declared.sign.Kind.{Kind}
use Rattle.agda_grammar.specs.declared.sign.Kind.TheVariants as k
use Rattle.agda_grammar.specs.declared.sign.Sign.{Sign}
use Rattle.expr_parser.specs.Token.{sign_of}

-- a sign that is no token
abbrev pub border : Kind → Pos → Sign
border kind pos = record { kind = kind; mark = record { place = record { span = record { start = 0; end = 0 }; pos = pos }; level = 0 } }

abbrev pub laid_token : Option Token → Sign
laid_token (Some token) = sign_of token
laid_token None = border k.Other (record { line = 1; col = 1 })

-- a number behind the tokens, which no layout has, is a sign that the grammar does not use
abbrev pub laid_sign : List Token → Laid → Sign
laid_sign tokens (l.Tok at) = laid_token (slice_get tokens at)
laid_sign tokens (l.Open pos) = border k.BlockOpen pos
laid_sign tokens (l.Next pos) = border k.BlockNext pos
laid_sign tokens (l.Close pos) = border k.BlockClose pos

abbrev pub laid_signs : List Token → List Laid → List Sign
laid_signs tokens laid = map (laid_sign tokens) laid
