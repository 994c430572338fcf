use Rattle.std.specs.List.{SameBelow}
use Rattle.source_tree.proofs.+same_pattern.Given as goal

abbrev pub invariant-equality::same_patterns-loop-i : goal.invariant-equality::same_patterns-loop-i
invariant-equality::same_patterns-loop-i l = SameBelow l.patterns l.others l.i
