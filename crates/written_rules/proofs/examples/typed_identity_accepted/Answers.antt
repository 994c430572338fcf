use Rattle.written_rules.proofs.ByHand.{typed_identity_accepted}
use Rattle.written_rules.proofs.examples.typed_identity_accepted.Goals as goal

pub returns : goal.returns
returns c = typed_identity_accepted
