use Rattle.index_unify.proofs.Walks.{Walked}
use Rattle.index_unify.proofs.walk.reaches.Given as goal

abbrev pub invariant-loop-at : goal.invariant-loop-at
invariant-loop-at g l = Walked (g.W.Walk.edge l.walk l.pool) (g.W.Walk.goal l.walk) l.pool (l.fn.t, 0) l.queue l.at
