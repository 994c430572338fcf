-- A row.
use Rattle.unify_rules.proofs.Rows.{variable_deleted}
use Rattle.unify_rules.proofs.examples.variable_deleted.Goals as goal

pub returns : goal.returns
returns c = variable_deleted
