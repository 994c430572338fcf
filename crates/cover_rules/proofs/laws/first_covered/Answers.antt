-- Node by node.
use Rattle.cover_rules.proofs.Example.{first}
use Rattle.cover_rules.proofs.laws.first_covered.Goals as goal

pub returns : goal.returns
returns c = first
