-- A record split and a cosplit are derivable.
use Rattle.core_rules.proofs.Trees.Swap.{swaps_derivable}
use Rattle.core_rules.proofs.tree_examples.swaps_derivable.Goals as goal

pub returns : goal.returns
returns c = swaps_derivable
