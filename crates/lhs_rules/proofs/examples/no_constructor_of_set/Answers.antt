use Rattle.lhs_rules.proofs.ByHand.{no_constructor_of_set}
use Rattle.lhs_rules.proofs.examples.no_constructor_of_set.Goals as goal

pub returns : goal.returns
returns c = no_constructor_of_set
