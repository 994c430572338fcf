-- No solved metavariable is left.
use Rattle.core_rules.proofs.Heads.InFull.{none_left}
use Rattle.core_rules.proofs.bounded_laws.no_solved_left.Goals as goal

pub returns : goal.returns
returns c = λ s f t a x. none_left s f a x t
