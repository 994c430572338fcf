use Rattle.data_rules.proofs.Accepted.{box_of_set}
use Rattle.data_rules.proofs.examples.box_of_set.Goals as goal

pub returns : goal.returns
returns c = box_of_set
