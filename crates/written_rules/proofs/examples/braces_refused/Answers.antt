use Rattle.written_rules.proofs.ByHand.{braces_refused}
use Rattle.written_rules.proofs.examples.braces_refused.Goals as goal

pub returns : goal.returns
returns c = braces_refused
