use Rattle.written_rules.proofs.ByHand.{record_accepted}
use Rattle.written_rules.proofs.examples.record_accepted.Goals as goal

pub returns : goal.returns
returns c = record_accepted
