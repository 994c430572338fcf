use Rattle.std.proofs.Common.{◌<◌, length}
use Rattle.core_terms.specs.Signature.{Stands}
use Rattle.left_rows.proofs.world.World.postulate.Given as goal

abbrev pub invariant-loop-name : goal.invariant-loop-name
invariant-loop-name l = Stands l.self.pool l.self.signature × (l.ty < length l.self.pool.trees)
