use Rattle.term_pool.proofs.ArgLists.{IsLeft}
use Rattle.term_pool.proofs.pool.TermPool.add_args.Given as goal

abbrev pub invariant-loop-left : goal.invariant-loop-left
invariant-loop-left l = IsLeft l.fn.self l.self l.fn.ids l.left l.list

abbrev pub decreases-loop-left : goal.decreases-loop-left
decreases-loop-left l = l.left
