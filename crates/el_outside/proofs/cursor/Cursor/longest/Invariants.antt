use Rattle.std.proofs.Common.{length}
use Rattle.el_outside.proofs.Between.{Taking}
use Rattle.el_outside.proofs.cursor.Cursor.longest.Given as goal

abbrev pub invariant-run : goal.invariant-run
invariant-run g l = Taking (g.S.CharSet.holds l.set) l.start l.self

abbrev pub decreases-run : goal.decreases-run
decreases-run g l = length l.self.chars
