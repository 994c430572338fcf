use Rattle.std.proofs.Common.{◌∙◌, sym, rules}
use Rattle.term_pool.proofs.Turns.{made-kept, result_there}
use Rattle.term_pool.proofs.traversal.changed.Goals as goal

pub returns-clause-is : goal.returns-clause-is
returns-clause-is g c = result_there (g.C.Change.term c.args.change.now c.args.pool.now) c.args.pool.now c.loop-task.pool c.loop-task.table c.args.t 0 c.in-Some-get.made
    c.loop-task.invariant.extends c.loop-task.invariant.state.fits c.requires.within (sym c.get.ensures ∙ c.in-Some-get.is)

pub returns-then-reach-first-clause-is : goal.returns-then-reach-first-clause-is
returns-then-reach-first-clause-is g c =
    made-kept (g.C.Change.term c.args.change.now c.args.pool.now) c.first.result c.args.pool.now c.args.t 0 c.requires.within (c.first.ensures c.args.pool.now) (search rules)
