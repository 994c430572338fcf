use Rattle.written_rules.proofs.ByHand.{dot_compared}
use Rattle.written_rules.proofs.examples.dot_compared.Goals as goal

pub returns : goal.returns
returns c = dot_compared
