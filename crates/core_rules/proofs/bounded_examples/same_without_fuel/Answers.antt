-- The statement is the lemma.
use Rattle.core_rules.proofs.Heads.Looping.{same_without_fuel}
use Rattle.core_rules.proofs.bounded_examples.same_without_fuel.Goals as goal

pub returns : goal.returns
returns c = same_without_fuel
