use Rattle.core_kernel.specs.Spine.{IsSpine}
use Rattle.core_kernel.proofs.spine.take_apart.Given as goal

abbrev pub invariant-loop-before : goal.invariant-loop-before
invariant-loop-before l = IsSpine l.fn.pool l.fn.flag l.fn.fun l.fn.arg (record { head = l.head; arguments = l.arguments; terms = l.terms })

abbrev pub decreases-loop-before : goal.decreases-loop-before
decreases-loop-before l = l.head
