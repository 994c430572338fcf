-- A shift passes an environment: its values are shifted, and nothing else.
use Rattle.core_rules.proofs.Substitution.Exchange.{shift-under}
use Rattle.core_rules.proofs.laws.shift_of_environment.Goals as goal

pub returns : goal.returns
returns c = λ r t from by. shift-under r t from by
