use Rattle.std.proofs.Common.{length}
use Rattle.el_outside.proofs.LineStarts.{Walked}
use Rattle.el_outside.proofs.line_table.LineTable.new.Given as goal

abbrev pub invariant-chars : goal.invariant-chars
invariant-chars l = Walked l.text l.starts.items l.cursor

abbrev pub decreases-chars : goal.decreases-chars
decreases-chars l = length l.cursor.chars
