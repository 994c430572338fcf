use Rattle.kernel_rules.proofs.ByHand.{plain_unifies}
use Rattle.kernel_rules.proofs.examples.plain_unifies.Goals as goal

pub returns : goal.returns
returns c = plain_unifies
