use Rattle.std.specs.Prelude.{length}
use Rattle.lhs_elab.proofs.Keeping.{PassedTo}
use Rattle.lhs_elab.proofs.moving.place.Given as goal

abbrev pub invariant-loop-left : goal.invariant-loop-left
invariant-loop-left l = record {
  so : PassedTo l.fn.var l.fn.keep l.left;
}

abbrev pub decreases-loop-left : goal.decreases-loop-left
decreases-loop-left l = length l.left
