use Rattle.std.proofs.Common.{◌≡◌, length}
use Rattle.agda_lexer.specs.Pieces.{pragma_close}
use Rattle.agda_lexer.proofs.piece.pass_pragma_close.Given as goal

abbrev pub invariant-inside : goal.invariant-inside
invariant-inside l = pragma_close l.cursor.place l.cursor.chars ≡ pragma_close l.initial.cursor.place l.initial.cursor.chars

abbrev pub decreases-inside : goal.decreases-inside
decreases-inside l = length l.cursor.chars
