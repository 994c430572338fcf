-- A record split unfolds at a constructor and at a variable.
use Rattle.core_rules.proofs.Trees.Swap.{swap_unfolds}
use Rattle.core_rules.proofs.tree_examples.swap_unfolds.Goals as goal

pub returns : goal.returns
returns c = swap_unfolds
