use Rattle.written_rules.proofs.ByHand.{parameter_left_out}
use Rattle.written_rules.proofs.examples.parameter_left_out.Goals as goal

pub returns : goal.returns
returns c = parameter_left_out
