use Rattle.std.proofs.Common.{◌≡◌, ◌+◌, drop}
use Rattle.core_print.specs.Labels.{first_false}
use Rattle.core_print.proofs.label.first_unset.Given as goal

abbrev pub invariant-loop-k : goal.invariant-loop-k
invariant-loop-k l = first_false l.marks ≡ l.k + first_false (drop l.k l.marks)
