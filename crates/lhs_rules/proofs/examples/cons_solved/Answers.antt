use Rattle.lhs_rules.proofs.ByHand.{cons_solved}
use Rattle.lhs_rules.proofs.examples.cons_solved.Goals as goal

pub returns : goal.returns
returns c = cons_solved
