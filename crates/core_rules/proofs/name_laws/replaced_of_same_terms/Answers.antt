-- Replacing does not see names.
use Rattle.core_rules.proofs.Names.Alike.{alike_of, same_of, alike-replace}
use Rattle.core_rules.proofs.name_laws.replaced_of_same_terms.Goals as goal

pub returns : goal.returns
returns c = λ s t u e. same_of (alike-replace s (alike_of t u e))
