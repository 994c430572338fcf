use Rattle.std.proofs.Common.{◌<◌, length}
use Rattle.core_terms.specs.Signature.{Stands}
use Rattle.left_rows.proofs.row.Walk.function.Given as goal

abbrev pub invariant-loop-clause : goal.invariant-loop-clause
invariant-loop-clause l = Stands l.self.world.pool l.self.world.signature × (l.ty < length l.self.world.pool.trees)
