use Rattle.written_rules.proofs.ByHand.{projection_of_no_record}
use Rattle.written_rules.proofs.examples.projection_of_no_record.Goals as goal

pub returns : goal.returns
returns c = projection_of_no_record
