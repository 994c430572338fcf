-- Solutions are put in whole deeper than each rank.
use Rattle.core_rules.proofs.Heads.InFull.{by_rank}
use Rattle.core_rules.proofs.bounded_laws.instantiated_by_rank.Goals as goal

pub returns : goal.returns
returns c = λ s f deep t a x h. by_rank s f a x deep t h
