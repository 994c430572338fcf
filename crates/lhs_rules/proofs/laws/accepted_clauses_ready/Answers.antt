use Rattle.lhs_rules.proofs.Nothing.{clauses_ready}
use Rattle.lhs_rules.proofs.laws.accepted_clauses_ready.Goals as goal

pub returns : goal.returns
returns c = clauses_ready c.clauses_plain.ensures
