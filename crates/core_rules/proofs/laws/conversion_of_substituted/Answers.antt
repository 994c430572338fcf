-- Conversion is kept by substitution, in the term and of it.
use Rattle.core_rules.proofs.Typing.Substituted.{conv-subst}
use Rattle.core_rules.proofs.laws.conversion_of_substituted.Goals as goal

pub returns : goal.returns
returns c = λ g s at t u v w h k. conv-subst g s at t u v w h k
