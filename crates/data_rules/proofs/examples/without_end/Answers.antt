use Rattle.data_rules.proofs.Steps.{without_end}
use Rattle.data_rules.proofs.examples.without_end.Goals as goal

pub returns : goal.returns
returns c = without_end
