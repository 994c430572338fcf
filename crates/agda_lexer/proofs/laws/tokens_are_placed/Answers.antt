use Rattle.agda_lexer.proofs.Walks.{are_placed}
use Rattle.agda_lexer.proofs.laws.tokens_are_placed.Goals as goal

pub returns : goal.returns
returns c = are_placed c.args.text.now c.utf8.text
