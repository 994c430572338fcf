use Rattle.std.specs.Prelude.{length}
use Rattle.tree_kernel.specs.Reader.{Grows}
use Rattle.tree_kernel.proofs.Leveling.{LevelsLeft}
use Rattle.tree_kernel.proofs.reader.Reader.are_types.Given as goal

abbrev pub invariant-loop-left : goal.invariant-loop-left
invariant-loop-left l = record {
  grows : Grows l.fn.self l.self;
  levels : LevelsLeft l.fn.self l.fn.entries l.context l.left;
}

abbrev pub decreases-loop-left : goal.decreases-loop-left
decreases-loop-left l = length l.left
