use Rattle.lhs_rules.proofs.ByHand.{implicit_patterns}
use Rattle.lhs_rules.proofs.examples.implicit_patterns.Goals as goal

pub returns : goal.returns
returns c = implicit_patterns
