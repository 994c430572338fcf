use Rattle.std.proofs.Common.{◌≡◌, map, take}
use Rattle.core_print.proofs.pattern_names.labels_of.Given as goal

abbrev pub invariant-loop-one : goal.invariant-loop-one
invariant-loop-one l = l.labels.items ≡ map (λ b. b.label) (take l.one-index l.bound)
