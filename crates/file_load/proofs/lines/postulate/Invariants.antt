use Rattle.std.proofs.Common.{◌≡◌, ◌++◌, drop}
use Rattle.file_load.specs.Judged.{postulates_of}
use Rattle.file_load.proofs.lines.postulate.Given as goal

abbrev pub invariant-loop-name : goal.invariant-loop-name
invariant-loop-name l = l.fn.signature ++ postulates_of l.names l.ty ≡ l.signature ++ postulates_of (drop l.name-index l.names) l.ty
