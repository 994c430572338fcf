use Rattle.std.proofs.Common.{arith}
use Rattle.source_tree.proofs.Lists.{summed_throughout}
use Rattle.source_tree.proofs.nodes.size_of_items.Goals as goal

pub returns : goal.returns
returns g c = summed_throughout g.T.Counted.nodes c.args.items.now c.loop-item.item-index c.loop-item.size c.loop-item.invariant (omega arith)
