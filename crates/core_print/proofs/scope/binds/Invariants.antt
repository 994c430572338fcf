use Rattle.std.proofs.Common.{◌≡◌, length, map}
use Rattle.core_print.specs.Variables.{binds}
use Rattle.core_print.specs.Views.{variable_of}
use Rattle.core_print.proofs.scope.binds.Given as goal

abbrev pub invariant-loop-left : goal.invariant-loop-left
invariant-loop-left l = binds (map variable_of l.variables) l.index ≡ binds (map variable_of l.left) l.index

abbrev pub decreases-loop-left : goal.decreases-loop-left
decreases-loop-left l = length l.left
