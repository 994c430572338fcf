use Rattle.std.specs.Prelude.{length}
use Rattle.core_terms.specs.Solutions.{solved_in}
use Rattle.index_unify.proofs.Begun.{Types}
use Rattle.index_unify.proofs.start.whole_types.Given as goal

abbrev pub invariant-loop-left : goal.invariant-loop-left
invariant-loop-left g l = Types (solved_in l.fn.pool (g.S.Solutions.solution l.sol)) l.fn.pool l.pool l.fn.entries l.left l.inside l.types.items

abbrev pub decreases-loop-left : goal.decreases-loop-left
decreases-loop-left g l = length l.left
