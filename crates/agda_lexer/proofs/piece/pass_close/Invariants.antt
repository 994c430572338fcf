use Rattle.std.proofs.Common.{◌≡◌, ◌≤◌, length}
use Rattle.agda_lexer.specs.Pieces.{close_of}
use Rattle.agda_lexer.proofs.piece.pass_close.Given as goal

abbrev pub invariant-inside : goal.invariant-inside
invariant-inside l = (close_of l.mark l.depth l.cursor.place l.cursor.chars ≡ close_of l.mark 0 l.initial.cursor.place l.initial.cursor.chars) × (l.depth ≤ l.cursor.place.at)

abbrev pub decreases-inside : goal.decreases-inside
decreases-inside l = length l.cursor.chars
