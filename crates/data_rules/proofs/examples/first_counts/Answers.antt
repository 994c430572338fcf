use Rattle.data_rules.proofs.Refused.{first_counts}
use Rattle.data_rules.proofs.examples.first_counts.Goals as goal

pub returns : goal.returns
returns c = first_counts
