use Rattle.std.proofs.Common.{sym}
use Rattle.el_outside.proofs.Between.{turn}
use Rattle.el_outside.proofs.cursor.Cursor.longest.Goals as goal

pub run-preserved : goal.run-preserved
run-preserved g c = turn _ _ _ _ _ _ (sym c.if-not-has.ensures) c.in-Some.ensures c.skip.ensures c.run.invariant
