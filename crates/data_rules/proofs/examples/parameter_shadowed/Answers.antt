use Rattle.data_rules.proofs.Refused.{parameter_shadowed}
use Rattle.data_rules.proofs.examples.parameter_shadowed.Goals as goal

pub returns : goal.returns
returns c = parameter_shadowed
