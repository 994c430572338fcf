use Rattle.lhs_rules.proofs.ByHand.{cons_misaligned}
use Rattle.lhs_rules.proofs.examples.cons_misaligned.Goals as goal

pub returns : goal.returns
returns c = cons_misaligned
