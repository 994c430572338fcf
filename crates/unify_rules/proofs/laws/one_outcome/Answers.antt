-- One answer.
use Rattle.unify_rules.proofs.OneOutcome.{unify_one}
use Rattle.unify_rules.proofs.laws.one_outcome.Goals as goal

pub returns : goal.returns
returns c = λ g fuel depth s o p n m x y. unify_one g fuel depth x y
