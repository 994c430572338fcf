use Rattle.std.specs.Prelude.{length}
use Rattle.tree_kernel.specs.Reader.{Grows}
use Rattle.tree_kernel.proofs.Refuting.{RefutesLeft}
use Rattle.tree_kernel.proofs.reader.Reader.all_refuted.Given as goal

abbrev pub invariant-loop-left : goal.invariant-loop-left
invariant-loop-left l = record {
  grows : Grows l.fn.self l.self;
  refutes : RefutesLeft l.fn.self l.fn.split l.fn.cons l.ids l.fn.decls l.left;
}

abbrev pub decreases-loop-left : goal.decreases-loop-left
decreases-loop-left l = length l.left
