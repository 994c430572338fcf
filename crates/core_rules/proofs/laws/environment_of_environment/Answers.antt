-- An environment passes an environment.
use Rattle.core_rules.proofs.Substitution.Exchange.{under-under}
use Rattle.core_rules.proofs.laws.environment_of_environment.Goals as goal

pub returns : goal.returns
returns c = λ r s t. under-under r s t
