use Rattle.std.specs.Prelude.{◌≡◌, ◌-◌, length}
use Rattle.term_pool.specs.Pool.{Extends}
use Rattle.index_unify.specs.Renaming.{IsRenaming}
use Rattle.index_unify.proofs.rename.rename.Given as goal

abbrev pub invariant-loop-pool : goal.invariant-loop-pool
invariant-loop-pool l = record {
  extends : Extends l.fn.pool l.pool;
  renaming : IsRenaming l.pool l.fn.renaming.keep.now l.renaming.terms.items;
  keep : l.renaming.keep ≡ l.fn.renaming.keep;
}

abbrev pub decreases-loop-pool : goal.decreases-loop-pool
decreases-loop-pool l = l.reach - length l.renaming.terms.items
