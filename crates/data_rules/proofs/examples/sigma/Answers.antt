use Rattle.data_rules.proofs.Accepted.{sigma}
use Rattle.data_rules.proofs.examples.sigma.Goals as goal

pub returns : goal.returns
returns c = sigma
