use Rattle.data_rules.proofs.Steps.{sort_by_step}
use Rattle.data_rules.proofs.examples.sort_by_step.Goals as goal

pub returns : goal.returns
returns c = sort_by_step
