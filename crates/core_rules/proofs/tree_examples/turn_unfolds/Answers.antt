-- A cosplit unfolds at each field.
use Rattle.core_rules.proofs.Trees.Swap.{turn_unfolds}
use Rattle.core_rules.proofs.tree_examples.turn_unfolds.Goals as goal

pub returns : goal.returns
returns c = turn_unfolds
