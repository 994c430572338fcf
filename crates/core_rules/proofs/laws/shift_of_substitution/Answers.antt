-- A shift from the place of a substitution on, or from further inside, passes it.
use Rattle.core_rules.proofs.Substitution.Exchange.{shift-subst_inside}
use Rattle.core_rules.proofs.laws.shift_of_substitution.Goals as goal

pub returns : goal.returns
returns c = λ t at from by u h. shift-subst_inside t at from by u h
