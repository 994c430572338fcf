use Rattle.data_rules.proofs.Accepted.{pointed}
use Rattle.data_rules.proofs.examples.pointed.Goals as goal

pub returns : goal.returns
returns c = pointed
