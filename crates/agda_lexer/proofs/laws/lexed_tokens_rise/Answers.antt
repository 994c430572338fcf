use Rattle.agda_lexer.proofs.Walks.{lexed_rise, lexed_on_borders, lexed_few}
use Rattle.agda_lexer.proofs.laws.lexed_tokens_rise.Goals as goal

pub returns-clause-rise : goal.returns-clause-rise
returns-clause-rise c = lexed_rise c.args.text.now c.utf8.text

pub returns-clause-borders : goal.returns-clause-borders
returns-clause-borders c = lexed_on_borders c.args.text.now c.utf8.text

pub returns-clause-few : goal.returns-clause-few
returns-clause-few c = lexed_few c.args.text.now c.utf8.text
