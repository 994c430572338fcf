use Rattle.std.proofs.Common.{◌≡◌, length}
use Rattle.kernel_rules.specs.FamilyReading.{none_above}
use Rattle.core_kernel.proofs.telescope.none_above.Given as goal

abbrev pub invariant-loop-left : goal.invariant-loop-left
invariant-loop-left l = none_above l.level l.left ≡ none_above l.level l.levels

abbrev pub decreases-loop-left : goal.decreases-loop-left
decreases-loop-left l = length l.left
