use Rattle.std.proofs.Common.{◌≡◌, ◌≤◌, ◌<◌, ◌+◌, ℕ, length, drop}
use Rattle.std.specs.Prelude.{reverse}
use Rattle.std.specs.List.{AllByRecursion}
use Rattle.elab_machine.proofs.record.env_of.Given as goal

abbrev pub invariant-loop-left : goal.invariant-loop-left
invariant-loop-left l = record {
  within : l.left ≤ length l.terms;
  count : length l.env.items ≡ l.room + length (drop l.left l.terms);
  is : drop l.room l.env.items ≡ reverse (drop l.left l.terms);
  below : (n : ℕ) → AllByRecursion (λ t. t < n) l.terms → l.fn.filler < n → AllByRecursion (λ t. t < n) l.env.items;
}

abbrev pub decreases-loop-left : goal.decreases-loop-left
decreases-loop-left l = l.left
