-- A row.
use Rattle.unify_rules.proofs.Rows.{sort_stuck}
use Rattle.unify_rules.proofs.examples.sort_stuck.Goals as goal

pub returns : goal.returns
returns c = sort_stuck
