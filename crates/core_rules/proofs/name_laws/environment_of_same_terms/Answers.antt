-- Environments do not see names.
use Rattle.core_rules.proofs.Names.Alike.{alike_of, each_of, same_of, alike-under}
use Rattle.core_rules.proofs.name_laws.environment_of_same_terms.Goals as goal

pub returns : goal.returns
returns c = λ r s t u h e. same_of (alike-under (each_of r s h) (alike_of t u e))
