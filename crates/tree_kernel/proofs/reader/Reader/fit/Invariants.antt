use Rattle.std.specs.Prelude.{◌≤◌, length, map, drop}
use Rattle.kernel_rules.specs.Outcome.{Gives}
use Rattle.kernel_rules.specs.TreeReading.{ValuesOf}
use Rattle.tree_kernel.specs.Jobs.{context_by}
use Rattle.tree_kernel.specs.Reader.{Grows, signature_of, term_of, fuel_of, depth_of}
use Rattle.tree_kernel.proofs.reader.Reader.fit.Given as goal

abbrev pub invariant-loop-left : goal.invariant-loop-left
invariant-loop-left l = record {
  grows : Grows l.fn.self l.self;
  within : l.left ≤ length l.terms;
  done : ValuesOf (signature_of l.fn.self) (fuel_of l.fn.self) (depth_of l.fn.self) (context_by (term_of l.fn.self) l.context)
      (drop l.left (map (term_of l.fn.self) l.terms)) (drop l.left (context_by (term_of l.fn.self) l.entries)) (Gives tt);
}

abbrev pub decreases-loop-left : goal.decreases-loop-left
decreases-loop-left l = l.left
