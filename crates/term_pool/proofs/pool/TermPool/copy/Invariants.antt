use Rattle.std.proofs.Common.{◌≡◌, take}
use Rattle.term_pool.proofs.pool.TermPool.copy.Given as goal

abbrev pub invariant-loop-node : goal.invariant-loop-node
invariant-loop-node l = l.nodes.keys ≡ take l.node-index l.node-items
