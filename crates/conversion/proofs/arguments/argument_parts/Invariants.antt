use Rattle.std.proofs.Common.{◌≡◌, ℕ, length}
use Rattle.std.specs.List.{AllByRecursion}
use Rattle.core_rules.specs.Term.{Term}
use Rattle.core_rules.specs.Bounded.{argument_parts}
use Rattle.weak_head.specs.Elims.{AllBelow, spine_in}
use Rattle.conversion.specs.Part.{PartBelow, all_in}
use Rattle.conversion.proofs.Zip.{onto}
use Rattle.conversion.proofs.arguments.argument_parts.Given as goal

abbrev pub invariant-loop-xs : goal.invariant-loop-xs
invariant-loop-xs l = record {
  is : (f : ℕ → Term) → argument_parts (spine_in f l.left) (spine_in f l.right) ≡ onto (all_in f l.parts.items) (argument_parts (spine_in f l.xs) (spine_in f l.ys));
  below : (n : ℕ) → AllBelow n l.left → AllBelow n l.right → AllByRecursion (PartBelow n) l.parts.items;
  left : (n : ℕ) → AllBelow n l.left → AllBelow n l.xs;
  right : (n : ℕ) → AllBelow n l.right → AllBelow n l.ys;
}

abbrev pub decreases-loop-xs : goal.decreases-loop-xs
decreases-loop-xs l = length l.xs
