use Rattle.data_rules.proofs.Accepted.{naturals}
use Rattle.data_rules.proofs.examples.naturals.Goals as goal

pub returns : goal.returns
returns c = naturals
