-- Addition unfolds at zero and at a successor.
use Rattle.core_rules.proofs.Trees.Append.{plus_unfolds}
use Rattle.core_rules.proofs.tree_examples.plus_unfolds.Goals as goal

pub returns : goal.returns
returns c = plus_unfolds
