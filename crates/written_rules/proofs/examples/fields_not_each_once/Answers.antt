use Rattle.written_rules.proofs.ByHand.{fields_not_each_once}
use Rattle.written_rules.proofs.examples.fields_not_each_once.Goals as goal

pub returns : goal.returns
returns c = fields_not_each_once
