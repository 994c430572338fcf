-- Two changes in turn are two others in turn, where they are so at each variable.
use Rattle.core_rules.proofs.Substitution.Traversal.{over-swap}
use Rattle.core_rules.proofs.laws.traversal_exchange.Goals as goal

pub returns : goal.returns
returns c = λ f g h k e d t. over-swap f g h k e d t
