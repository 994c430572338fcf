use Rattle.agda_lexer.proofs.Walks.{runs_longest}
use Rattle.agda_lexer.proofs.laws.runs_are_longest.Goals as goal

pub returns : goal.returns
returns c = runs_longest c.args.text.now c.utf8.text
