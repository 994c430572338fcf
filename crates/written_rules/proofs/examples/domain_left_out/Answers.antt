use Rattle.written_rules.proofs.ByHand.{domain_left_out}
use Rattle.written_rules.proofs.examples.domain_left_out.Goals as goal

pub returns : goal.returns
returns c = domain_left_out
