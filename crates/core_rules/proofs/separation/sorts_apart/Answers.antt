-- Sorts of different levels are not convertible.
use Rattle.core_rules.proofs.Apart.Constants.{sorts_apart}
use Rattle.core_rules.proofs.separation.sorts_apart.Goals as goal

pub returns : goal.returns
returns c = sorts_apart
