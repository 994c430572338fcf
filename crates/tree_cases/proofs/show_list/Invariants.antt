use Rattle.core_terms.specs.Signature.{Stands}
use Rattle.tree_cases.proofs.show_list.Given as goal

abbrev pub invariant-loop-row : goal.invariant-loop-row
invariant-loop-row l = Stands l.world.pool l.world.sig
