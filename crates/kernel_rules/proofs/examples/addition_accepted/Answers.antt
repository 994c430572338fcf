use Rattle.kernel_rules.proofs.ByHand.{addition_accepted}
use Rattle.kernel_rules.proofs.examples.addition_accepted.Goals as goal

pub returns : goal.returns
returns c = addition_accepted
