-- How a file begins: with a whole header, with a broken one, or with none.
use Rattle.std.specs.Prelude.{Bool, true, false, ◌&&◌, if◌then◌else◌, List, [], ◌∷◌}
use Rattle.agda_lexer.specs.declared.Token.{Token}
use Rattle.agda_lexer.specs.declared.TokenKind.{TokenKind}
use Rattle.agda_lexer.specs.declared.TokenKind.TheVariants.{Name, Qualified, Keyword}
use Rattle.agda_lexer.specs.declared.Word.TheVariants.{Module, Where}
use Rattle.agda_layout.specs.declared.header.Header.{Header}
use Rattle.agda_layout.specs.declared.header.Header.TheVariants.{Absent, Whole, Broken}

abbrev pub is_module : TokenKind → Bool
is_module (Keyword Module) = true
is_module _ = false

abbrev pub is_name : TokenKind → Bool
is_name Name = true
is_name Qualified = true
is_name _ = false

abbrev pub is_where : TokenKind → Bool
is_where (Keyword Where) = true
is_where _ = false

-- behind `module`
abbrev pub behind_module : List Token → Header
behind_module [] = Broken
behind_module (t ∷ []) = Broken
behind_module (t ∷ u ∷ ts) = if is_name t.kind && is_where u.kind then Whole else Broken

-- `module`, a name or a qualified name, and `where` are a header
abbrev pub header_of : List Token → Header
header_of [] = Absent
header_of (t ∷ ts) = if is_module t.kind then behind_module ts else Absent
