use Rattle.written_rules.proofs.ByHand.{arrow_typed}
use Rattle.written_rules.proofs.examples.arrow_typed.Goals as goal

pub returns : goal.returns
returns c = arrow_typed
