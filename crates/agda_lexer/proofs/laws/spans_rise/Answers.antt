use Rattle.agda_lexer.proofs.Walks.{spans_rise, on_borders}
use Rattle.agda_lexer.proofs.laws.spans_rise.Goals as goal

pub returns-clause-rise : goal.returns-clause-rise
returns-clause-rise c = spans_rise c.args.text.now c.utf8.text

pub returns-clause-borders : goal.returns-clause-borders
returns-clause-borders c = on_borders c.args.text.now c.utf8.text
