use Rattle.written_rules.proofs.ByHand.{implicit_argument_left_out}
use Rattle.written_rules.proofs.examples.implicit_argument_left_out.Goals as goal

pub returns : goal.returns
returns c = implicit_argument_left_out
