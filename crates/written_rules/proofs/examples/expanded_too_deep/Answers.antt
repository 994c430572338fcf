use Rattle.written_rules.proofs.ByHand.{expanded_too_deep}
use Rattle.written_rules.proofs.examples.expanded_too_deep.Goals as goal

pub returns : goal.returns
returns c = expanded_too_deep
