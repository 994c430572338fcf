-- A row.
use Rattle.unify_rules.proofs.Rows.{cons_solved}
use Rattle.unify_rules.proofs.examples.cons_solved.Goals as goal

pub returns : goal.returns
returns c = cons_solved
