-- A row.
use Rattle.unify_rules.proofs.Rows.{fuel_needed}
use Rattle.unify_rules.proofs.examples.fuel_needed.Goals as goal

pub returns : goal.returns
returns c = fuel_needed
