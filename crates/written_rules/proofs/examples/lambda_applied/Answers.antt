use Rattle.written_rules.proofs.ByHand.{lambda_applied}
use Rattle.written_rules.proofs.examples.lambda_applied.Goals as goal

pub returns : goal.returns
returns c = lambda_applied
