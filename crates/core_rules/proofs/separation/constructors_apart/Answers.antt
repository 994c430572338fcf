-- Different constructors are not convertible.
use Rattle.core_rules.proofs.Apart.Constants.{constructors_apart}
use Rattle.core_rules.proofs.separation.constructors_apart.Goals as goal

pub returns : goal.returns
returns c = constructors_apart
