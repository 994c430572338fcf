-- Substitution does not see names.
use Rattle.core_rules.proofs.Names.Alike.{alike_of, same_of, alike-subst}
use Rattle.core_rules.proofs.name_laws.substitution_of_same_terms.Goals as goal

pub returns : goal.returns
returns c = λ t u v w at e h. same_of (alike-subst at (alike_of t u e) (alike_of v w h))
