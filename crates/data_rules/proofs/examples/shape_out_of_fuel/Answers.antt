use Rattle.data_rules.proofs.Steps.{shape_out_of_fuel}
use Rattle.data_rules.proofs.examples.shape_out_of_fuel.Goals as goal

pub returns : goal.returns
returns c = shape_out_of_fuel
