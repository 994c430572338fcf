use Rattle.std.proofs.Common.{◌≡◌, [], length, map}
use Rattle.core_print.specs.Labels.{label_text}
use Rattle.core_print.specs.LeftSide.{chosen}
use Rattle.core_print.specs.Pages.{bound_in}
use Rattle.core_print.specs.Views.{variable_of, world_of}
use Rattle.core_print.proofs.pattern_names.choose_names.Given as goal

abbrev pub invariant-loop-left : goal.invariant-loop-left
invariant-loop-left l =
    chosen (world_of l.source.view) (map (label_text l.source.view.names.now) l.taken.items) [] (map variable_of l.variables)
    ≡ chosen (world_of l.source.view) (map (label_text l.source.view.names.now) l.taken.items) (bound_in l.source.view.names.now l.bound.items) (map variable_of l.left)

abbrev pub decreases-loop-left : goal.decreases-loop-left
decreases-loop-left l = length l.left
