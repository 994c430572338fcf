-- A blocked head form names an unsolved metavariable.
use Rattle.core_rules.proofs.Heads.OneAnswer.{heads_blocked}
use Rattle.core_rules.proofs.bounded_laws.blocked_by_unsolved.Goals as goal

pub returns : goal.returns
returns c = λ g s t h es ds m n d. heads_blocked d
