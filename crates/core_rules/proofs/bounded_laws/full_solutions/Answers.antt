-- Acyclic solutions can be had in full.
use Rattle.core_rules.proofs.Heads.FullSolutions.{full_is_full}
use Rattle.core_rules.proofs.bounded_laws.full_solutions.Goals as goal

pub returns : goal.returns
returns c = λ s a. full_is_full s a
