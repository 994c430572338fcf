use Rattle.lhs_rules.proofs.ByHand.{too_many_inserted}
use Rattle.lhs_rules.proofs.examples.too_many_inserted.Goals as goal

pub returns : goal.returns
returns c = too_many_inserted
