use Rattle.lhs_rules.proofs.ByHand.{braces_refused}
use Rattle.lhs_rules.proofs.examples.braces_refused.Goals as goal

pub returns : goal.returns
returns c = braces_refused
