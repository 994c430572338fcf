use Rattle.std.proofs.Common.{◌≡◌, ◌++◌, length, map}
use Rattle.written_rules.specs.Expressions.{ids}
use Rattle.data_elab.specs.Constructors.{named}
use Rattle.data_elab.proofs.constructors.put_line.Given as goal

abbrev pub invariant-loop-left : goal.invariant-loop-left
invariant-loop-left l = l.cons.items ++ map (named l.line.args.items l.line.indices.items) (ids l.left) ≡ l.fn.cons.items ++ map (named l.line.args.items l.line.indices.items) (ids l.names)

abbrev pub decreases-loop-left : goal.decreases-loop-left
decreases-loop-left l = length l.left
