use Rattle.written_rules.proofs.ByHand.{set_refused}
use Rattle.written_rules.proofs.examples.set_refused.Goals as goal

pub returns : goal.returns
returns c = set_refused
