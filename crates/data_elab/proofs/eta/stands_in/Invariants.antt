use Rattle.data_elab.proofs.Mentions.{Searched}
use Rattle.data_elab.proofs.eta.stands_in.Given as goal

abbrev pub invariant-loop-at : goal.invariant-loop-at
invariant-loop-at l = Searched l.fn.pool l.fn.fam l.fn.fields l.queue l.at
