use Rattle.kernel_rules.proofs.ByHand.{absurd_refused}
use Rattle.kernel_rules.proofs.examples.absurd_refused.Goals as goal

pub returns : goal.returns
returns c = absurd_refused
