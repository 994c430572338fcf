use Rattle.data_rules.proofs.Refused.{no_sorts}
use Rattle.data_rules.proofs.examples.no_sorts.Goals as goal

pub returns : goal.returns
returns c = no_sorts
