use Rattle.std.proofs.Common.{arith}
use Rattle.source_tree.specs.Nodes.{pattern_nodes}
use Rattle.source_tree.proofs.Lists.{summed_throughout}
use Rattle.source_tree.proofs.+size_pattern.Goals as goal

pub nodes::size_of_patterns-returns : goal.nodes::size_of_patterns-returns
nodes::size_of_patterns-returns t c = summed_throughout pattern_nodes c.args.patterns.now c.loop-pattern.pattern-index c.loop-pattern.size c.loop-pattern.invariant (omega arith)
