use Rattle.data_rules.proofs.Refused.{parameter_no_type}
use Rattle.data_rules.proofs.examples.parameter_no_type.Goals as goal

pub returns : goal.returns
returns c = parameter_no_type
