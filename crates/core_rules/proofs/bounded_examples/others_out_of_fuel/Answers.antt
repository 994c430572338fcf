-- The statement is the lemma.
use Rattle.core_rules.proofs.Heads.Looping.{others_out_of_fuel}
use Rattle.core_rules.proofs.bounded_examples.others_out_of_fuel.Goals as goal

pub returns : goal.returns
returns c = others_out_of_fuel
