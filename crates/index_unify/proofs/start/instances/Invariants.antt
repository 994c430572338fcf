use Rattle.std.specs.Prelude.{length}
use Rattle.core_terms.specs.Solutions.{solved_in}
use Rattle.index_unify.proofs.Begun.{Instances}
use Rattle.index_unify.proofs.start.instances.Given as goal

abbrev pub invariant-loop-rest : goal.invariant-loop-rest
invariant-loop-rest g l = Instances (solved_in l.fn.pool (g.S.Solutions.solution l.sol)) l.fn.pool l.pool l.fn.equations l.rest l.all.items

abbrev pub decreases-loop-rest : goal.decreases-loop-rest
decreases-loop-rest g l = length l.rest
