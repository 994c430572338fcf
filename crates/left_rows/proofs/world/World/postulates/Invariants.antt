use Rattle.core_terms.specs.Signature.{Stands}
use Rattle.left_rows.proofs.world.World.postulates.Given as goal

abbrev pub invariant-loop-line : goal.invariant-loop-line
invariant-loop-line l = Stands l.self.pool l.self.signature
