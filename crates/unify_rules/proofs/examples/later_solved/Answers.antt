-- A row.
use Rattle.unify_rules.proofs.Rows.{later_solved}
use Rattle.unify_rules.proofs.examples.later_solved.Goals as goal

pub returns : goal.returns
returns c = later_solved
