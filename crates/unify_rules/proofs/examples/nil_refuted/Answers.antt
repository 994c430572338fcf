-- A row.
use Rattle.unify_rules.proofs.Rows.{nil_refuted}
use Rattle.unify_rules.proofs.examples.nil_refuted.Goals as goal

pub returns : goal.returns
returns c = nil_refuted
