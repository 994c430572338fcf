use Rattle.tree_kernel.specs.Jobs.{all_parts}
use Rattle.tree_kernel.specs.Nodes.{ReadsNode}
use Rattle.tree_kernel.specs.Reader.{Grows}
use Rattle.tree_kernel.proofs.Stacking.{Waits}
use Rattle.tree_kernel.proofs.reader.Reader.read.Given as goal

abbrev pub invariant-loop-job : goal.invariant-loop-job
invariant-loop-job l = record {
  grows : Grows l.fn.self l.self;
  waits : Waits l.fn.self l.self (ReadsNode l.fn.self l.fn.node l.fn.node.tree.now) l.waiting.items;
}

abbrev pub decreases-loop-job : goal.decreases-loop-job
decreases-loop-job l = all_parts l.waiting.items
