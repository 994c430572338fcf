use Rattle.std.proofs.Common.{◌≡◌, ◌≤◌, ℕ, List, length, take}
use Rattle.core_print.specs.LeftSide.{name_in}
use Rattle.core_print.specs.Pages.{bound_in}
use Rattle.core_print.proofs.pattern_names.label_at.Given as goal

abbrev pub invariant-loop-left : goal.invariant-loop-left
invariant-loop-left l = record {
  within : l.left ≤ length l.bound;
  is : (ns : List (List ℕ)) → name_in (bound_in ns l.bound) l.place ≡ name_in (bound_in ns (take l.left l.bound)) l.place;
}

abbrev pub decreases-loop-left : goal.decreases-loop-left
decreases-loop-left l = l.left
