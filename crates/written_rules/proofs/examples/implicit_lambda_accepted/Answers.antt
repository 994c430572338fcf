use Rattle.written_rules.proofs.ByHand.{implicit_lambda_accepted}
use Rattle.written_rules.proofs.examples.implicit_lambda_accepted.Goals as goal

pub returns : goal.returns
returns c = implicit_lambda_accepted
