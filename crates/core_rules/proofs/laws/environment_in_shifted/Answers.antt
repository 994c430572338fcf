-- In a shifted term an environment does not read the values of the variables that the shift has made.
use Rattle.core_rules.proofs.Substitution.Exchange.{under-shift}
use Rattle.core_rules.proofs.laws.environment_in_shifted.Goals as goal

pub returns : goal.returns
returns c = λ r t n. under-shift r t n
