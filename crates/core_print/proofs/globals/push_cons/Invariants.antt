use Rattle.std.proofs.Common.{◌≡◌, ◌++◌, length}
use Rattle.core_print.specs.Names.{con_names}
use Rattle.core_print.proofs.globals.push_cons.Given as goal

abbrev pub invariant-loop-left : goal.invariant-loop-left
invariant-loop-left l = l.names.items ++ con_names l.left ≡ l.fn.names.items ++ con_names l.cons

abbrev pub decreases-loop-left : goal.decreases-loop-left
decreases-loop-left l = length l.left
