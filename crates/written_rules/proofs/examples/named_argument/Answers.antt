use Rattle.written_rules.proofs.ByHand.{named_argument}
use Rattle.written_rules.proofs.examples.named_argument.Goals as goal

pub returns : goal.returns
returns c = named_argument
