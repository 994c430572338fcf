use Rattle.kernel_rules.proofs.ByHand.{nat_accepted}
use Rattle.kernel_rules.proofs.examples.nat_accepted.Goals as goal

pub returns : goal.returns
returns c = nat_accepted
