use Rattle.data_rules.proofs.Refused.{field_too_big}
use Rattle.data_rules.proofs.examples.field_too_big.Goals as goal

pub returns : goal.returns
returns c = field_too_big
