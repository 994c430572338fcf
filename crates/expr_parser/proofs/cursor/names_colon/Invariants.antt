use Rattle.std.proofs.Common.{◌≡◌, length}
use Rattle.expr_parser.specs.Cursor.{names_colon}
use Rattle.expr_parser.proofs.cursor.names_colon.Given as goal

abbrev pub invariant-loop-signs : goal.invariant-loop-signs
invariant-loop-signs l = names_colon l.signs ≡ names_colon l.initial.signs

abbrev pub decreases-loop-signs : goal.decreases-loop-signs
decreases-loop-signs l = length l.signs
