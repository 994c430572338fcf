-- It unfolds at both constructors.
use Rattle.core_rules.proofs.Trees.Middle.{again_unfolds}
use Rattle.core_rules.proofs.tree_examples.again_unfolds.Goals as goal

pub returns : goal.returns
returns c = again_unfolds
