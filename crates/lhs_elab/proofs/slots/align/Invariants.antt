use Rattle.std.specs.Prelude.{length}
use Rattle.lhs_elab.proofs.AligningAll.{AlignedSo}
use Rattle.lhs_elab.proofs.slots.align.Given as goal

abbrev pub invariant-loop-others : goal.invariant-loop-others
invariant-loop-others l = record {
  so : AlignedSo l.fn.pos l.fn.patterns l.fn.entries l.written.items l.left l.others;
}

abbrev pub decreases-loop-others : goal.decreases-loop-others
decreases-loop-others l = length l.others
