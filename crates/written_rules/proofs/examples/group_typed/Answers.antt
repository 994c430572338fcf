use Rattle.written_rules.proofs.ByHand.{group_typed}
use Rattle.written_rules.proofs.examples.group_typed.Goals as goal

pub returns : goal.returns
returns c = group_typed
