use Rattle.std.proofs.Common.{arith}
use Rattle.agda_layout.proofs.Alone.{one_more}
use Rattle.agda_layout.proofs.layout.alone.Goals as goal

pub loop-i-preserved : goal.loop-i-preserved
loop-i-preserved c = one_more _ _ _ _ _ (omega arith) c.in_ok-push.ensures.items c.loop-i.invariant
