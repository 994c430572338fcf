use Rattle.data_rules.proofs.Refused.{own_record}
use Rattle.data_rules.proofs.examples.own_record.Goals as goal

pub returns : goal.returns
returns c = own_record
