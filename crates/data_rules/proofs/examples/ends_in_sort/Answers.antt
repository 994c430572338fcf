use Rattle.data_rules.proofs.Refused.{ends_in_sort}
use Rattle.data_rules.proofs.examples.ends_in_sort.Goals as goal

pub returns : goal.returns
returns c = ends_in_sort
