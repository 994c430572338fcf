use Rattle.data_rules.proofs.Accepted.{groups}
use Rattle.data_rules.proofs.examples.groups.Goals as goal

pub returns : goal.returns
returns c = groups
