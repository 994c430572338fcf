-- The branch is in order.
use Rattle.unify_rules.proofs.Acyclic.{branch_in_order}
use Rattle.unify_rules.proofs.laws.branch_in_order.Goals as goal

pub returns : goal.returns
returns c = λ g fuel depth n c es ts ss d. branch_in_order g fuel depth n c es ts ss d
