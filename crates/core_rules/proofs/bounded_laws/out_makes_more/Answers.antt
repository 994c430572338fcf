-- Out of fuel, more steps can be made.
use Rattle.core_rules.proofs.Heads.Needed.{out_makes_more}
use Rattle.core_rules.proofs.bounded_laws.out_makes_more.Goals as goal

pub returns : goal.returns
returns c = λ g s t fuel a h. out_makes_more g s t fuel a h
