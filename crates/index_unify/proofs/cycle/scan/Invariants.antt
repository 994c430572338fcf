use Rattle.std.specs.Prelude.{take}
use Rattle.index_unify.specs.Constructors.{Seen}
use Rattle.index_unify.proofs.cycle.scan.Given as goal

abbrev pub invariant-loop-at : goal.invariant-loop-at
invariant-loop-at l = Seen l.pool l.var l.fn.args (take l.at l.fn.args) l.fn.queue l.queue
