use Rattle.written_rules.proofs.ByHand.{expanded_accepted}
use Rattle.written_rules.proofs.examples.expanded_accepted.Goals as goal

pub returns : goal.returns
returns c = expanded_accepted
