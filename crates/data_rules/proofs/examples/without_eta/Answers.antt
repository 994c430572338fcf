use Rattle.data_rules.proofs.Accepted.{without_eta}
use Rattle.data_rules.proofs.examples.without_eta.Goals as goal

pub returns : goal.returns
returns c = without_eta
