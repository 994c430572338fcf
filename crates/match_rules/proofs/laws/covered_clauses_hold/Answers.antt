-- Each clause holds.
use Rattle.match_rules.proofs.Cover.First.{clause_holds}
use Rattle.match_rules.proofs.laws.covered_clauses_hold.Goals as goal

pub returns : goal.returns
returns c = λ g s y f v i. clause_holds g s y f v i
