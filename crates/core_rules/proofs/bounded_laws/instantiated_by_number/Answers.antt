-- Solutions are put in whole as deep as there are solved metavariables.
use Rattle.core_rules.proofs.Heads.InFull.{by_number}
use Rattle.core_rules.proofs.bounded_laws.instantiated_by_number.Goals as goal

pub returns : goal.returns
returns c = λ s f ms t a x h. by_number s f a x ms t h
