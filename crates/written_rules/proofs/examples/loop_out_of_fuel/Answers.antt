use Rattle.written_rules.proofs.ByHand.{loop_out_of_fuel}
use Rattle.written_rules.proofs.examples.loop_out_of_fuel.Goals as goal

pub returns : goal.returns
returns c = loop_out_of_fuel
