use Rattle.std.proofs.Common.{◌≡◌, length}
use Rattle.std.specs.Str.{chars}
use Rattle.el_outside.specs.Place.{end_of, start}
use Rattle.expr_parser.proofs.refuse.end_pos.Given as goal

abbrev pub invariant-loop-c : goal.invariant-loop-c
invariant-loop-c l = end_of l.cursor ≡ end_of (start (chars l.text))

abbrev pub decreases-loop-c : goal.decreases-loop-c
decreases-loop-c l = length l.cursor.chars
