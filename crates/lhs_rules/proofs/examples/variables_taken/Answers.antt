use Rattle.lhs_rules.proofs.ByHand.{variables_taken}
use Rattle.lhs_rules.proofs.examples.variables_taken.Goals as goal

pub returns : goal.returns
returns c = variables_taken
