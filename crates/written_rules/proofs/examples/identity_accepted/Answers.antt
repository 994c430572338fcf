use Rattle.written_rules.proofs.ByHand.{identity_accepted}
use Rattle.written_rules.proofs.examples.identity_accepted.Goals as goal

pub returns : goal.returns
returns c = identity_accepted
