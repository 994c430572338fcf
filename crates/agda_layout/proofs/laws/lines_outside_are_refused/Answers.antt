use Rattle.agda_layout.proofs.Outsides.{is_refused_outside}
use Rattle.agda_layout.proofs.laws.lines_outside_are_refused.Goals as goal

pub returns : goal.returns
returns c = is_refused_outside c.args.tokens.now
