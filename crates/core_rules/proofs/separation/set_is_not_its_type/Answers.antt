-- Set and Set 1 are not convertible.
use Rattle.core_rules.proofs.Apart.Constants.{set_is_not_its_type}
use Rattle.core_rules.proofs.separation.set_is_not_its_type.Goals as goal

pub returns : goal.returns
returns c = set_is_not_its_type
