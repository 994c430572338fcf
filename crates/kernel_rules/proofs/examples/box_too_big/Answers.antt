use Rattle.kernel_rules.proofs.ByHand.{box_too_big}
use Rattle.kernel_rules.proofs.examples.box_too_big.Goals as goal

pub returns : goal.returns
returns c = box_too_big
