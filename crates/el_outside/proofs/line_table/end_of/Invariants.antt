use Rattle.std.proofs.Common.{◌≡◌, length}
use Rattle.el_outside.specs.Place as spec
use Rattle.el_outside.proofs.line_table.end_of.Given as goal

abbrev pub invariant-walk : goal.invariant-walk
invariant-walk l = spec.end_of l.cursor ≡ spec.end_of l.fn.cursor

abbrev pub decreases-walk : goal.decreases-walk
decreases-walk l = length l.cursor.chars
