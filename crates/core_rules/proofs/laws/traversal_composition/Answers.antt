-- Two changes in turn are one, where they are so at each variable.
use Rattle.core_rules.proofs.Substitution.Traversal.{over-over}
use Rattle.core_rules.proofs.laws.traversal_composition.Goals as goal

pub returns : goal.returns
returns c = λ f g h e d t. over-over f g h e d t
