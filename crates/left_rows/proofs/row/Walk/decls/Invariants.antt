use Rattle.core_terms.specs.Signature.{Stands}
use Rattle.left_rows.proofs.row.Walk.decls.Given as goal

abbrev pub invariant-loop-decl : goal.invariant-loop-decl
invariant-loop-decl l = Stands l.self.world.pool l.self.world.signature
