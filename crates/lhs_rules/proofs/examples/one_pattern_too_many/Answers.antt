use Rattle.lhs_rules.proofs.ByHand.{one_pattern_too_many}
use Rattle.lhs_rules.proofs.examples.one_pattern_too_many.Goals as goal

pub returns : goal.returns
returns c = one_pattern_too_many
