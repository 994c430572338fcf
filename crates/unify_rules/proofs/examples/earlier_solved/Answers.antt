-- A row.
use Rattle.unify_rules.proofs.Rows.{earlier_solved}
use Rattle.unify_rules.proofs.examples.earlier_solved.Goals as goal

pub returns : goal.returns
returns c = earlier_solved
