-- Zero is no successor.
use Rattle.core_rules.proofs.Apart.Constants.{zero_is_no_successor}
use Rattle.core_rules.proofs.separation.zero_is_no_successor.Goals as goal

pub returns : goal.returns
returns c = zero_is_no_successor
