use Rattle.std.proofs.Common.{◌≡◌, ℕ, ◌≤◌, ◌<◌, ◌-◌, length, take, map}
use Rattle.std.specs.List.{AllByRecursion}
use Rattle.core_rules.specs.Term.{Term}
use Rattle.weak_head.specs.Elims.{AllBelow, args_of, spine_in}
use Rattle.weak_head.proofs.spine.arguments.Given as goal

abbrev pub invariant-loop-elim : goal.invariant-loop-elim
invariant-loop-elim l = record {
  is : (f : ℕ → Term) → map f l.all.items ≡ args_of (take l.n (spine_in f l.spine.items));
  below : (k : ℕ) → AllBelow k l.spine.items → AllByRecursion (λ i. i < k) l.all.items;
  within : l.n ≤ length l.spine.items;
}

abbrev pub decreases-loop-elim : goal.decreases-loop-elim
decreases-loop-elim l = length l.spine.items - l.n
