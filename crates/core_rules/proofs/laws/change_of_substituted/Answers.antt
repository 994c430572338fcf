-- A change that is lifted under binders passes a substitution.
use Rattle.core_rules.proofs.Substitution.Lifted.{over-subst}
use Rattle.core_rules.proofs.laws.change_of_substituted.Goals as goal

pub returns : goal.returns
returns c = λ f l d at t u. over-subst f l at d u t
