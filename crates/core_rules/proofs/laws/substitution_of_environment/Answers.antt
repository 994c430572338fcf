-- A substitution passes an environment: it is made in the values, and nowhere else.
use Rattle.core_rules.proofs.Substitution.Exchange.{subst-under}
use Rattle.core_rules.proofs.laws.substitution_of_environment.Goals as goal

pub returns : goal.returns
returns c = λ r t at u. subst-under r t at u
