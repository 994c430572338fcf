use Rattle.std.proofs.Common.{length}
use Rattle.data_elab.proofs.Mentions.{Put}
use Rattle.data_elab.proofs.eta.types.Given as goal

abbrev pub invariant-loop-left : goal.invariant-loop-left
invariant-loop-left l = Put l.fields l.left l.queue

abbrev pub decreases-loop-left : goal.decreases-loop-left
decreases-loop-left l = length l.left
