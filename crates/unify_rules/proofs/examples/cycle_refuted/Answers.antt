-- A row.
use Rattle.unify_rules.proofs.Rows.{cycle_refuted}
use Rattle.unify_rules.proofs.examples.cycle_refuted.Goals as goal

pub returns : goal.returns
returns c = cycle_refuted
