use Rattle.lhs_rules.proofs.ByHand.{number_not_absurd}
use Rattle.lhs_rules.proofs.examples.number_not_absurd.Goals as goal

pub returns : goal.returns
returns c = number_not_absurd
