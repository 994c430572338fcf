use Rattle.data_rules.proofs.Refused.{parameters_swapped}
use Rattle.data_rules.proofs.examples.parameters_swapped.Goals as goal

pub returns : goal.returns
returns c = parameters_swapped
