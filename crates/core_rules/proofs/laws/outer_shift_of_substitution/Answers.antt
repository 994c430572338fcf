-- A shift from further outside than the place of a substitution passes it.
use Rattle.core_rules.proofs.Substitution.Exchange.{shift-subst_outside}
use Rattle.core_rules.proofs.laws.outer_shift_of_substitution.Goals as goal

pub returns : goal.returns
returns c = λ t at from by u. shift-subst_outside t at from by u
