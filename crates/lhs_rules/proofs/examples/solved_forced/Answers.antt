use Rattle.lhs_rules.proofs.ByHand.{solved_forced}
use Rattle.lhs_rules.proofs.examples.solved_forced.Goals as goal

pub returns : goal.returns
returns c = solved_forced
