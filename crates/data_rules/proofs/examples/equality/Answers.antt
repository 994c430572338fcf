use Rattle.data_rules.proofs.Accepted.{equality}
use Rattle.data_rules.proofs.examples.equality.Goals as goal

pub returns : goal.returns
returns c = equality
