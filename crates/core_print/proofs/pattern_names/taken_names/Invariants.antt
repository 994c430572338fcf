use Rattle.std.proofs.Common.{◌≡◌, ◌++◌, length, map}
use Rattle.core_print.specs.Labels.{label_text}
use Rattle.core_print.specs.LeftSide.{own_names}
use Rattle.core_print.specs.Views.{variable_of, world_of}
use Rattle.core_print.proofs.pattern_names.taken_names.Given as goal

abbrev pub invariant-loop-left : goal.invariant-loop-left
invariant-loop-left l =
    own_names (world_of l.view) (map variable_of l.variables)
    ≡ map (label_text l.view.names.now) l.taken.items ++ own_names (world_of l.view) (map variable_of l.left)

abbrev pub decreases-loop-left : goal.decreases-loop-left
decreases-loop-left l = length l.left
