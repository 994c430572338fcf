use Rattle.std.proofs.Common.{arith}
use Rattle.elab_cli.proofs.Sent.{more_sent}
use Rattle.elab_cli.proofs.program.put_all.Goals as goal

pub loop-rest-preserved : goal.loop-rest-preserved
loop-rest-preserved g c = record {
  sent = more_sent _ _ _ _ _ _ _ c.loop-rest.invariant.sent c.in_ok-n.ensures.bytes c.split_at.ensures.back;
  later = omega (arith, c.loop-rest.invariant.later, c.put.ensures.later);
}
