-- The entries of the branch and their types.
use Rattle.unify_rules.proofs.Types as T
use Rattle.unify_rules.proofs.laws.branch_types.Goals as goal

pub returns : goal.returns
returns c = λ g fuel depth n c es ts ss f s d. T.branch_types g fuel depth n c es ts ss f s d
