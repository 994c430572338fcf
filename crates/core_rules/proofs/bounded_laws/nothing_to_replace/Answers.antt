-- Without solutions each term stays.
use Rattle.core_rules.proofs.Heads.FullSolutions.{nothing_to_replace}
use Rattle.core_rules.proofs.bounded_laws.nothing_to_replace.Goals as goal

pub returns : goal.returns
returns c = nothing_to_replace
