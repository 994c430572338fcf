use Rattle.std.proofs.Common.{ℕ, ◌≤◌, ◌-◌, length, take}
use Rattle.core_rules.specs.Term.{Term}
use Rattle.weak_head.specs.Elims.{AreArgs, spine_in}
use Rattle.weak_head.proofs.spine.first_field.Given as goal

abbrev pub invariant-loop-elim : goal.invariant-loop-elim
invariant-loop-elim l = record {
  args : (f : ℕ → Term) → AreArgs (take l.n (spine_in f l.spine.items));
  within : l.n ≤ length l.spine.items;
}

abbrev pub decreases-loop-elim : goal.decreases-loop-elim
decreases-loop-elim l = length l.spine.items - l.n
