use Rattle.agda_lexer.proofs.Words.{takes}
use Rattle.agda_lexer.proofs.piece.pragma_word.Goals as goal

pub word-preserved : goal.word-preserved
word-preserved c = takes _ _ _ _ _ c.in-Some.ensures c.skip.ensures c.if-is_white.ensures c.if-sees_close.ensures c.word.invariant
