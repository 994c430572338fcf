use Rattle.std.proofs.Common.{◌≤◌, length, drop}
use Rattle.core_rules.specs.Mapped.{telescope_map}
use Rattle.term_pool.specs.Pool.{Extends, StandsFor, tree}
use Rattle.elab_machine.specs.Binders.{bound}
use Rattle.elab_machine.proofs.binders.put_around.Given as goal

abbrev pub invariant-loop-left : goal.invariant-loop-left
invariant-loop-left l = record {
  extends : Extends l.fn.pool l.pool;
  left : l.left ≤ length l.fn.entries;
  made : StandsFor l.pool l.made (bound l.fn.binding (telescope_map (tree l.fn.pool) (drop l.left l.fn.entries)) (tree l.fn.pool l.fn.inner));
}

abbrev pub decreases-loop-left : goal.decreases-loop-left
decreases-loop-left l = l.left
