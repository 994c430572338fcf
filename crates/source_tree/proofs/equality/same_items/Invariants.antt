use Rattle.std.specs.List.{SameBelow}
use Rattle.source_tree.proofs.equality.same_items.Given as goal

abbrev pub invariant-loop-i : goal.invariant-loop-i
invariant-loop-i g l = SameBelow l.items l.others l.i
