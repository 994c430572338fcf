-- A typed tree is in scope.
use Rattle.core_rules.proofs.Trees.Scoped.{tree-in_scope}
use Rattle.core_rules.proofs.tree_laws.typed_tree_in_scope.Goals as goal

pub returns : goal.returns
returns c = λ g c T a l t. tree-in_scope g t
