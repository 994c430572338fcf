use Rattle.lhs_rules.proofs.ByHand.{first_field}
use Rattle.lhs_rules.proofs.examples.first_field.Goals as goal

pub returns : goal.returns
returns c = first_field
