-- Each clause holds.
use Rattle.core_rules.proofs.Trees.Scoped.{derivable-in_scope}
use Rattle.core_rules.proofs.Trees.Regular.{derivable-typed}
use Rattle.match_rules.proofs.Cover.First.{clause_holds}
use Rattle.match_rules.proofs.laws.derivable_clauses_hold.Goals as goal

pub returns : goal.returns
returns c = λ g r f v i. clause_holds g (derivable-in_scope g r) (derivable-typed g r) f v i
