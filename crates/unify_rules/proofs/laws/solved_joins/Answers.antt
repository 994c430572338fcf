-- The branch joins the solutions.
use Rattle.unify_rules.proofs.Joining.{solved_joins}
use Rattle.unify_rules.proofs.laws.solved_joins.Goals as goal

pub returns : goal.returns
returns c = λ g fuel depth n c es ts ss a d. solved_joins g fuel depth n c es ts ss a d
