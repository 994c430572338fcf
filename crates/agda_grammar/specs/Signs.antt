-- The signs of which a text of the grammar is made.
use Rattle.std.specs.Prelude.{List}
use Rattle.agda_grammar.specs.declared.sign.Kind.{Kind}
use Rattle.agda_grammar.specs.declared.sign.Mark.{Mark}
use Rattle.agda_grammar.specs.declared.sign.Sign.{Sign}

abbrev pub Input : Type 0
Input = List Sign

-- a sign of the kind
abbrev pub tok : Kind → Mark → Sign
tok kind mark = record { kind = kind; mark = mark }
