use Rattle.std.proofs.Common.{◌≡◌, length}
use Rattle.file_load.specs.Load as spec
use Rattle.el_outside.specs.Place.{pos}
use Rattle.file_load.proofs.stages.place_of.Given as goal

abbrev pub invariant-walk : goal.invariant-walk
invariant-walk l = spec.place_of_byte l.text l.byte ≡ pos (spec.reaches l.byte l.cursor.place l.cursor.chars)

abbrev pub decreases-walk : goal.decreases-walk
decreases-walk l = length l.cursor.chars
