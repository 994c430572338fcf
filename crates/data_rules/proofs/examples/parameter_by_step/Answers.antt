use Rattle.data_rules.proofs.Steps.{parameter_by_step}
use Rattle.data_rules.proofs.examples.parameter_by_step.Goals as goal

pub returns : goal.returns
returns c = parameter_by_step
