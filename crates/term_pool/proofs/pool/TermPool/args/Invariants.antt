use Rattle.term_pool.proofs.ArgLists.{IsTaken}
use Rattle.term_pool.proofs.pool.TermPool.args.Given as goal

abbrev pub invariant-loop-cell : goal.invariant-loop-cell
invariant-loop-cell l = IsTaken l.fn.self l.fn.a l.ids.items l.left

abbrev pub decreases-loop-cell : goal.decreases-loop-cell
decreases-loop-cell l = l.left
