-- A row.
use Rattle.unify_rules.proofs.Rows.{order_changed}
use Rattle.unify_rules.proofs.examples.order_changed.Goals as goal

pub returns : goal.returns
returns c = order_changed
