use Rattle.std.proofs.Common.{◌≡◌}
use Rattle.term_pool.specs.Pool.{Extends}
use Rattle.term_pool.specs.Change.{State, Comes, weigh}
use Rattle.term_pool.proofs.traversal.changed.Given as goal

abbrev pub invariant-loop-task : goal.invariant-loop-task
invariant-loop-task g l = record {
  extends : Extends l.initial.pool l.pool;
  ready : g.C.Change.ready l.change l.pool;
  same : g.C.Change.term l.change l.pool ≡ g.C.Change.term l.initial.change l.initial.pool;
  state : State (g.C.Change.term l.initial.change l.initial.pool) l.pool l.table l.pending.items;
  comes : Comes l.table l.pending.items l.fn.t 0;
}

abbrev pub decreases-loop-task : goal.decreases-loop-task
decreases-loop-task g l = weigh l.pending.items
