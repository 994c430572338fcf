use Rattle.data_rules.proofs.Accepted.{vectors}
use Rattle.data_rules.proofs.examples.vectors.Goals as goal

pub returns : goal.returns
returns c = vectors
