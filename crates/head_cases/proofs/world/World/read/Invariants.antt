use Rattle.core_terms.specs.Signature.{Stands}
use Rattle.head_cases.proofs.world.World.read.Given as goal

abbrev pub invariant-loop-n : goal.invariant-loop-n
invariant-loop-n l = record { stands : Stands l.self.pool l.self.sig }
