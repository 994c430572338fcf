use Rattle.written_rules.proofs.ByHand.{implicit_lambda_left_out}
use Rattle.written_rules.proofs.examples.implicit_lambda_left_out.Goals as goal

pub returns : goal.returns
returns c = implicit_lambda_left_out
