use Rattle.data_rules.proofs.Steps.{most_indices}
use Rattle.data_rules.proofs.examples.most_indices.Goals as goal

pub returns : goal.returns
returns c = most_indices
