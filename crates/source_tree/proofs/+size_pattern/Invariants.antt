use Rattle.source_tree.specs.Nodes.{pattern_nodes}
use Rattle.source_tree.proofs.Lists.{IsSumBefore}
use Rattle.source_tree.proofs.+size_pattern.Given as goal

abbrev pub invariant-nodes::size_of_patterns-loop-pattern : goal.invariant-nodes::size_of_patterns-loop-pattern
invariant-nodes::size_of_patterns-loop-pattern l = IsSumBefore pattern_nodes l.patterns l.pattern-index l.size
