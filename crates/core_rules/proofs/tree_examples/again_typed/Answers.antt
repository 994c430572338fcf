-- A split in the middle of a context is typed.
use Rattle.core_rules.proofs.Trees.Middle.{again_typed}
use Rattle.core_rules.proofs.tree_examples.again_typed.Goals as goal

pub returns : goal.returns
returns c = again_typed
