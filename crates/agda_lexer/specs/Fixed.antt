-- The token of an entry of the code's table of runs.
use Rattle.agda_lexer.specs.declared.run.Fixed.{Fixed}
use Rattle.agda_lexer.specs.declared.run.Fixed.TheVariants as fixed
use Rattle.agda_lexer.specs.declared.token.TokenKind.{TokenKind}
use Rattle.agda_lexer.specs.declared.token.TokenKind.TheVariants.{Keyword, Symbol, Hole, Underscore}

abbrev pub fixed_kind : Fixed → TokenKind
fixed_kind (fixed.Keyword w) = Keyword w
fixed_kind (fixed.Symbol s) = Symbol s
fixed_kind fixed.Hole = Hole
fixed_kind fixed.Underscore = Underscore
