use Rattle.written_rules.proofs.ByHand.{projection_accepted}
use Rattle.written_rules.proofs.examples.projection_accepted.Goals as goal

pub returns : goal.returns
returns c = projection_accepted
