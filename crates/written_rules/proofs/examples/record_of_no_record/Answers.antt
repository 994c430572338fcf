use Rattle.written_rules.proofs.ByHand.{record_of_no_record}
use Rattle.written_rules.proofs.examples.record_of_no_record.Goals as goal

pub returns : goal.returns
returns c = record_of_no_record
