use Rattle.std.specs.Prelude.{◌≡◌, ◌↔◌, length}
use Rattle.tree_kernel.proofs.same.same_places.Given as goal

abbrev pub invariant-loop-left : goal.invariant-loop-left
invariant-loop-left l = (l.left ≡ l.right) ↔ (l.places ≡ l.others)

abbrev pub decreases-loop-left : goal.decreases-loop-left
decreases-loop-left l = length l.left
