use Rattle.std.proofs.Common.{◌≡◌, ◌+◌, ◌≤◌, ◌++◌, [], length, map, reverse, take}
use Rattle.core_print.specs.Labels.{label_text}
use Rattle.core_print.specs.Names.{names_outside, source_names}
use Rattle.core_print.specs.Views.{world_of}
use Rattle.core_print.proofs.context.context_labels.Given as goal

abbrev pub invariant-loop-left : goal.invariant-loop-left
invariant-loop-left l = record {
  within : l.left ≤ length l.entries;
  length : length l.labels.items + l.left ≡ length l.entries;
  is : names_outside [] (source_names (world_of l.view) l.entries)
      ≡ map (label_text l.view.names.now) l.labels.items ++ names_outside (map (label_text l.view.names.now) (reverse l.labels.items)) (source_names (world_of l.view) (take l.left l.entries));
}

abbrev pub decreases-loop-left : goal.decreases-loop-left
decreases-loop-left l = l.left
