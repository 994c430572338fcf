use Rattle.std.proofs.Common.{length}
use Rattle.agda_lexer.proofs.Words.{Taking}
use Rattle.agda_lexer.proofs.piece.pragma_word.Given as goal

abbrev pub invariant-word : goal.invariant-word
invariant-word l = Taking l.initial.cursor l.cursor

abbrev pub decreases-word : goal.decreases-word
decreases-word l = length l.cursor.chars
