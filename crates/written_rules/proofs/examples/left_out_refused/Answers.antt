use Rattle.written_rules.proofs.ByHand.{left_out_refused}
use Rattle.written_rules.proofs.examples.left_out_refused.Goals as goal

pub returns : goal.returns
returns c = left_out_refused
