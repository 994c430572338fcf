use Rattle.std.proofs.Common.{◌≡◌, ◌≤◌, length, map, reverse, take}
use Rattle.core_print.specs.Apart.{is_among}
use Rattle.core_print.specs.Names.{name_text}
use Rattle.core_print.proofs.scope.is_among.Given as goal

abbrev pub invariant-loop-left : goal.invariant-loop-left
invariant-loop-left l = record {
  within : l.left ≤ length l.others;
  is : is_among (name_text l.names l.name) (map (name_text l.names) (reverse l.others)) ≡ is_among (name_text l.names l.name) (map (name_text l.names) (reverse (take l.left l.others)));
}

abbrev pub decreases-loop-left : goal.decreases-loop-left
decreases-loop-left l = l.left
