use Rattle.std.proofs.Common.{◌≡◌, ℕ, List, length, map, reverse, take, ◌++◌}
use Rattle.core_print.specs.Labels.{Marks, label_text}
use Rattle.core_print.proofs.label.mark_inside.Given as goal

abbrev pub invariant-loop-name : goal.invariant-loop-name
invariant-loop-name l = record {
  marks : (ns : List (List ℕ)) → Marks ns l.text l.fn.marks.items → Marks (map (label_text l.names) (reverse (take l.name-index l.inside)) ++ ns) l.text l.marks.items;
  same : length l.marks.items ≡ length l.fn.marks.items;
}
