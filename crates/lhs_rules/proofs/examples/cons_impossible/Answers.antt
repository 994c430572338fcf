use Rattle.lhs_rules.proofs.ByHand.{cons_impossible}
use Rattle.lhs_rules.proofs.examples.cons_impossible.Goals as goal

pub returns : goal.returns
returns c = cons_impossible
