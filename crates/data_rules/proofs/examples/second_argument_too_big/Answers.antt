use Rattle.data_rules.proofs.Refused.{second_argument_too_big}
use Rattle.data_rules.proofs.examples.second_argument_too_big.Goals as goal

pub returns : goal.returns
returns c = second_argument_too_big
