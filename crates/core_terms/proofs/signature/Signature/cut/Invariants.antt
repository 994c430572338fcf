use Rattle.std.proofs.Common.{◌≡◌, length, take}
use Rattle.core_terms.proofs.signature.Signature.cut.Given as goal

abbrev pub invariant-loop-mark : goal.invariant-loop-mark
invariant-loop-mark l = take l.fn.mark l.self ≡ take l.fn.mark l.initial.self

abbrev pub decreases-loop-mark : goal.decreases-loop-mark
decreases-loop-mark l = length l.self
