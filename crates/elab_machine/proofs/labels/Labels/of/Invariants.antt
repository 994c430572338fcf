use Rattle.std.proofs.Common.{◌≡◌, ℕ, ◌≤◌, length, drop}
use Rattle.elab_machine.specs.Labels.{label_of, labelled}
use Rattle.elab_machine.proofs.labels.Labels.of.Given as goal

abbrev pub invariant-loop-left : goal.invariant-loop-left
invariant-loop-left l = record {
  within : l.left ≤ length l.values;
  labels : (x : ℕ) → labelled l.labels x ≡ label_of x l.left (drop l.left l.values);
}

abbrev pub decreases-loop-left : goal.decreases-loop-left
decreases-loop-left l = l.left
