-- An answer comes by steps.
use Rattle.unify_rules.proofs.WithSolutions.{by_steps}
use Rattle.unify_rules.proofs.laws.outcome_by_steps.Goals as goal

pub returns : goal.returns
returns c = λ g fuel depth s o n i y d. by_steps g fuel depth s o n i y d
