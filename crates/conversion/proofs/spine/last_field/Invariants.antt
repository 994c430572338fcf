use Rattle.std.proofs.Common.{◌≤◌, ◌-◌, length, take}
use Rattle.std.specs.List.{AllByRecursion}
use Rattle.conversion.proofs.Cuts.{IsArgument}
use Rattle.conversion.proofs.spine.last_field.Given as goal

abbrev pub invariant-loop-n : goal.invariant-loop-n
invariant-loop-n l = record {
  within : l.n ≤ length l.spine;
  args : AllByRecursion IsArgument (take l.n l.spine);
}

abbrev pub decreases-loop-n : goal.decreases-loop-n
decreases-loop-n l = length l.spine - l.n
