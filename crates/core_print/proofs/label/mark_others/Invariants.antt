use Rattle.std.proofs.Common.{◌≡◌, ◌≤◌, length, map, drop, []}
use Rattle.core_print.specs.Labels.{Marks, label_text}
use Rattle.core_print.proofs.label.mark_others.Given as goal

abbrev pub invariant-loop-left : goal.invariant-loop-left
invariant-loop-left l = record {
  marks : Marks [] l.text l.fn.marks.items → Marks (map (label_text l.names) (drop l.left l.others)) l.text l.marks.items;
  same : length l.marks.items ≡ length l.fn.marks.items;
  within : l.left ≤ length l.others;
}

abbrev pub decreases-loop-left : goal.decreases-loop-left
decreases-loop-left l = l.left
