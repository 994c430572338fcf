use Rattle.written_rules.proofs.ByHand.{other_domain}
use Rattle.written_rules.proofs.examples.other_domain.Goals as goal

pub returns : goal.returns
returns c = other_domain
