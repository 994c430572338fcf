-- A typed tree is regular.
use Rattle.core_rules.proofs.Trees.Regular.{typed-regular}
use Rattle.core_rules.proofs.tree_laws.typed_tree_regular.Goals as goal

pub returns : goal.returns
returns c = λ g c T a l t. typed-regular g g (λ d decl e. e) t
