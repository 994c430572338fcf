-- More fuel gives the same answer.
use Rattle.core_rules.proofs.Heads.OneVerdict.{head_of_more}
use Rattle.core_rules.proofs.bounded_laws.more_fuel.Goals as goal

pub returns : goal.returns
returns c = λ g s t fuel more w n h x. head_of_more g s t fuel more w n h x
