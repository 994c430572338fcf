-- It is missed.
use Rattle.cover_rules.proofs.Example.{missed}
use Rattle.cover_rules.proofs.laws.successor_missed.Goals as goal

pub returns : goal.returns
returns c = missed
