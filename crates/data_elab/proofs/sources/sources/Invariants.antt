use Rattle.std.proofs.Common.{◌<◌, length}
use Rattle.std.specs.List.{AllByRecursion}
use Rattle.core_rules.specs.Mapped.{AllEntries}
use Rattle.term_pool.specs.Pool.{Extends, tree}
use Rattle.elab_machine.specs.Written.{IsSource}
use Rattle.data_elab.proofs.Risen.{AreSoFar}
use Rattle.data_elab.proofs.sources.sources.Given as goal

abbrev pub invariant-loop-left : goal.invariant-loop-left
invariant-loop-left l = record {
  extends : Extends l.fn.pool l.pool;
  entries : AllEntries (λ t. t < length l.fn.pool.trees) l.left;
  within : AllByRecursion (IsSource (length l.pool.trees)) l.values.items;
  are : AreSoFar (tree l.fn.pool) l.fn.entries l.left l.pool l.values.items;
}

abbrev pub decreases-loop-left : goal.decreases-loop-left
decreases-loop-left l = length l.left
