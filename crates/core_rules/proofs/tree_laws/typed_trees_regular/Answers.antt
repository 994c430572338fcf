-- Typed trees are regular.
use Rattle.core_rules.proofs.Trees.Regular.{typed_trees-regular}
use Rattle.core_rules.proofs.tree_laws.typed_trees_regular.Goals as goal

pub returns : goal.returns
returns c = λ g t. typed_trees-regular g t
