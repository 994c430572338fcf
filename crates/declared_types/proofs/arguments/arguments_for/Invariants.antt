use Rattle.std.proofs.Common.{◌≡◌, ◌<◌, ◌≤◌, ℕ, length, map, take}
use Rattle.std.specs.List.{AllByRecursion}
use Rattle.core_rules.specs.Term.{Term}
use Rattle.core_rules.specs.Mapped.{telescope_map}
use Rattle.weak_head.specs.Elims.{AllBelow, spine_in}
use Rattle.kernel_rules.specs.TermReading.{arguments_for}
use Rattle.declared_types.proofs.Taken.{before}
use Rattle.declared_types.proofs.arguments.arguments_for.Given as goal

abbrev pub invariant-loop-left : goal.invariant-loop-left
invariant-loop-left l = record {
  is : (f : ℕ → Term) → before (map f l.taken.items) (arguments_for (telescope_map f l.left) (spine_in f (take l.given l.spine))) ≡ arguments_for (telescope_map f l.entries) (spine_in f l.spine);
  below : (n : ℕ) → AllBelow n l.spine → AllByRecursion (λ t. t < n) l.taken.items;
  given : l.given ≤ length l.spine;
}

abbrev pub decreases-loop-left : goal.decreases-loop-left
decreases-loop-left l = length l.left
