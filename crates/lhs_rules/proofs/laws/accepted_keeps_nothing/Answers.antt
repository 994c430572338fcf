use Rattle.lhs_rules.proofs.Nothing.{keeps_nothing}
use Rattle.lhs_rules.proofs.laws.accepted_keeps_nothing.Goals as goal

pub returns : goal.returns
returns c = keeps_nothing
