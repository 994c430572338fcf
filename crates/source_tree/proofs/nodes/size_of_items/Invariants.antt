use Rattle.source_tree.proofs.Lists.{IsSumBefore}
use Rattle.source_tree.proofs.nodes.size_of_items.Given as goal

abbrev pub invariant-loop-item : goal.invariant-loop-item
invariant-loop-item g l = IsSumBefore g.T.Counted.nodes l.items l.item-index l.size
