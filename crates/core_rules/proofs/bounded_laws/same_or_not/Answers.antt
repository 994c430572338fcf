-- It can be told whether two terms are the same.
use Rattle.core_rules.proofs.Heads.Same.{are_same_or}
use Rattle.core_rules.proofs.bounded_laws.same_or_not.Goals as goal

pub returns : goal.returns
returns c = λ s t u a. are_same_or s a t u
