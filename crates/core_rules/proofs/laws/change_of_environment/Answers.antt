-- A change that is lifted under binders passes an environment.
use Rattle.core_rules.proofs.Substitution.Lifted.{over-under}
use Rattle.core_rules.proofs.laws.change_of_environment.Goals as goal

pub returns : goal.returns
returns c = λ f l d r t. over-under f l d r t
