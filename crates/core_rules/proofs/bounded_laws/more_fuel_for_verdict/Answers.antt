-- More fuel gives the same verdict.
use Rattle.core_rules.proofs.Heads.OneVerdict.{conv_of_more}
use Rattle.core_rules.proofs.bounded_laws.more_fuel_for_verdict.Goals as goal

pub returns : goal.returns
returns c = λ g s fuel more depth t u q h n x. conv_of_more g s fuel more depth t u q h n x
