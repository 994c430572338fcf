-- The sign that the grammar sees of a token, and those of a list.
use Rattle.std.specs.Prelude.{ℕ, List, map}
use Rattle.agda_lexer.specs.declared.token.Token.{Token}
use Rattle.agda_lexer.specs.declared.token.TokenKind.{TokenKind}
use Rattle.agda_lexer.specs.declared.token.TokenKind.TheVariants as t
use Rattle.agda_lexer.specs.declared.token.Word.{Word}
use Rattle.agda_lexer.specs.declared.token.Word.TheVariants as w
use Rattle.agda_lexer.specs.declared.token.Sym.{Sym}
use Rattle.agda_lexer.specs.declared.token.Sym.TheVariants as y
use Rattle.agda_grammar.specs.declared.sign.Kind.{Kind}
use Rattle.agda_grammar.specs.declared.sign.Kind.TheVariants as k
use Rattle.agda_grammar.specs.declared.sign.Sign.{Sign}

abbrev pub kind_of_word : Word → Kind
kind_of_word w.Coinductive = k.Coinductive
kind_of_word w.Constructor = k.Constructor
kind_of_word w.Data = k.Data
kind_of_word w.Field = k.Field
kind_of_word w.Inductive = k.Inductive
kind_of_word w.Module = k.Module
kind_of_word w.Open = k.Open
kind_of_word w.Postulate = k.Postulate
kind_of_word w.Public = k.Public
kind_of_word w.Record = k.Record
kind_of_word w.Where = k.Where
kind_of_word _ = k.Other

abbrev pub kind_of_sym : Sym → Kind
kind_of_sym y.ParenOpen = k.ParenOpen
kind_of_sym y.ParenClose = k.ParenClose
kind_of_sym y.BraceOpen = k.BraceOpen
kind_of_sym y.BraceClose = k.BraceClose
kind_of_sym y.Semicolon = k.Semicolon
kind_of_sym y.Dot = k.Dot
kind_of_sym y.Colon = k.Colon
kind_of_sym y.Equals = k.Equals
kind_of_sym y.Arrow = k.Arrow
kind_of_sym y.Lambda = k.Lambda
kind_of_sym y.All = k.All
kind_of_sym y.Bar = k.Other

abbrev pub kind_of : TokenKind → Kind
kind_of t.Name = k.Name
kind_of t.Qualified = k.Qualified
kind_of (t.Keyword word) = kind_of_word word
kind_of (t.Symbol sym) = kind_of_sym sym
kind_of (t.SetLevel n) = k.SetLevel
kind_of t.Hole = k.Hole
kind_of t.Underscore = k.Underscore

abbrev pub level_of : TokenKind → ℕ
level_of (t.SetLevel n) = n
level_of _ = 0

abbrev pub sign_of : Token → Sign
sign_of token = record { kind = kind_of token.kind; mark = record { place = record { span = token.span; pos = token.pos }; level = level_of token.kind } }

abbrev pub signs_of : List Token → List Sign
signs_of tokens = map sign_of tokens
