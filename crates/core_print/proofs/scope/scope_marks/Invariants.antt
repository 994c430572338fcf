use Rattle.std.proofs.Common.{◌≡◌, ◌+◌, ◌≤◌, ◌++◌, [], length, map, reverse, take}
use Rattle.core_print.specs.ContextText.{in_scope}
use Rattle.core_print.specs.Names.{name_text, source_names}
use Rattle.core_print.specs.Views.{variable_of, world_of}
use Rattle.core_print.proofs.scope.scope_marks.Given as goal

abbrev pub invariant-loop-left : goal.invariant-loop-left
invariant-loop-left l = record {
  within : l.left ≤ length l.entries;
  length : length l.seen.marks.items + l.left ≡ length l.entries;
  is : in_scope (map variable_of l.outside.variables.now) l.outside.count [] (source_names (world_of l.view) l.entries)
      ≡ l.seen.marks.items ++ in_scope (map variable_of l.outside.variables.now) l.outside.count (map (name_text l.view.names.now) (reverse l.seen.names.items)) (source_names (world_of l.view) (take l.left l.entries));
}

abbrev pub decreases-loop-left : goal.decreases-loop-left
decreases-loop-left l = l.left
