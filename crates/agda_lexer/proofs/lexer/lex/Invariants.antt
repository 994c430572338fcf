use Rattle.std.proofs.Common.{length}
use Rattle.agda_lexer.specs.Tokens.{cut_of}
use Rattle.agda_lexer.specs.Found.{found_of}
use Rattle.agda_lexer.proofs.Turns.{Left}
use Rattle.agda_lexer.proofs.lexer.lex.Given as goal

abbrev pub invariant-pieces : goal.invariant-pieces
invariant-pieces l = Left (cut_of l.text) (found_of l.found) l.joined l.cursor

abbrev pub decreases-pieces : goal.decreases-pieces
decreases-pieces l = length l.cursor.chars
