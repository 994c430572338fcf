use Rattle.written_rules.proofs.ByHand.{implicit_at_the_end}
use Rattle.written_rules.proofs.examples.implicit_at_the_end.Goals as goal

pub returns : goal.returns
returns c = implicit_at_the_end
