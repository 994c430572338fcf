use Rattle.agda_lexer.proofs.Lines.{stand_alone}
use Rattle.agda_lexer.proofs.laws.lines_stand_alone.Goals as goal

pub returns : goal.returns
returns c = stand_alone c.args.before.now c.args.after.now c.utf8.before c.utf8.after
