use Rattle.written_rules.proofs.ByHand.{lambda_of_other_flag}
use Rattle.written_rules.proofs.examples.lambda_of_other_flag.Goals as goal

pub returns : goal.returns
returns c = lambda_of_other_flag
