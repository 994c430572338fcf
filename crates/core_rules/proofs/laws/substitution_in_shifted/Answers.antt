-- A substitution for the variable that a shift has made gives the term back.
use Rattle.core_rules.proofs.Substitution.Exchange.{subst-shift}
use Rattle.core_rules.proofs.laws.substitution_in_shifted.Goals as goal

pub returns : goal.returns
returns c = λ t at u. subst-shift t at u
