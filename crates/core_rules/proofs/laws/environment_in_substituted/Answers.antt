-- In a substituted term an environment has the term that was put in, under itself, as its first value.
use Rattle.core_rules.proofs.Substitution.Exchange.{under-subst}
use Rattle.core_rules.proofs.laws.environment_in_substituted.Goals as goal

pub returns : goal.returns
returns c = λ r t u. under-subst r t u
