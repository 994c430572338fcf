-- A row.
use Rattle.unify_rules.proofs.Rows.{depth_needed}
use Rattle.unify_rules.proofs.examples.depth_needed.Goals as goal

pub returns : goal.returns
returns c = depth_needed
