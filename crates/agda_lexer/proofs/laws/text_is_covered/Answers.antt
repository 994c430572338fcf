use Rattle.agda_lexer.proofs.Walks.{is_covered}
use Rattle.agda_lexer.proofs.laws.text_is_covered.Goals as goal

pub returns : goal.returns
returns c = is_covered c.args.text.now c.utf8.text
