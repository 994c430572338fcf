use Rattle.data_rules.proofs.Accepted.{stream}
use Rattle.data_rules.proofs.examples.stream.Goals as goal

pub returns : goal.returns
returns c = stream
