-- The steps that can be made are needed.
use Rattle.core_rules.proofs.Heads.Needed.{makes_needed}
use Rattle.core_rules.proofs.bounded_laws.steps_are_needed.Goals as goal

pub returns : goal.returns
returns c = λ g s t es w k n m d. makes_needed m d
