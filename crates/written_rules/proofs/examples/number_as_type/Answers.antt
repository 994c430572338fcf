use Rattle.written_rules.proofs.ByHand.{number_as_type}
use Rattle.written_rules.proofs.examples.number_as_type.Goals as goal

pub returns : goal.returns
returns c = number_as_type
