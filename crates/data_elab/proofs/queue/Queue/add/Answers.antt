use Rattle.std.proofs.Common.{eqb-true}
use Rattle.data_elab.proofs.Queued.{inserted}
use Rattle.data_elab.proofs.queue.Queue.add.Goals as goal

pub returns : goal.returns
returns c = rw (← c.number.ensures, ← c.self.view_is) (inserted _ _ _ _ c.in_ok-insert.ensures.keys (λ t u e. eqb-true t u e))
