use Rattle.written_rules.proofs.ByHand.{others_at_implicit}
use Rattle.written_rules.proofs.examples.others_at_implicit.Goals as goal

pub returns : goal.returns
returns c = others_at_implicit
