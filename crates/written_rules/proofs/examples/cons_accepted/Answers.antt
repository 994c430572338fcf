use Rattle.written_rules.proofs.ByHand.{cons_accepted}
use Rattle.written_rules.proofs.examples.cons_accepted.Goals as goal

pub returns : goal.returns
returns c = cons_accepted
