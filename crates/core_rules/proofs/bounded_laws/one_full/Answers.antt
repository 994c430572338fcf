-- Acyclic solutions have one set of full ones.
use Rattle.core_rules.proofs.Heads.InFull.{one_full}
use Rattle.core_rules.proofs.bounded_laws.one_full.Goals as goal

pub returns : goal.returns
returns c = λ s f h m a x y. one_full s f h m a x y
