use Rattle.written_rules.proofs.ByHand.{too_many_arguments}
use Rattle.written_rules.proofs.examples.too_many_arguments.Goals as goal

pub returns : goal.returns
returns c = too_many_arguments
