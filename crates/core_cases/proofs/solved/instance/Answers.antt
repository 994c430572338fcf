use Rattle.core_cases.specs.Acyclic.{one-in, one-acyclic}
use Rattle.core_cases.proofs.solved.instance.Goals as goal

pub instantiate-requires-clause-solutions : goal.instantiate-requires-clause-solutions
instantiate-requires-clause-solutions c = one-in c.args.pool.now c.args.one.now.meta c.args.one.now.term c.requires.solution

pub instantiate-requires-clause-acyclic : goal.instantiate-requires-clause-acyclic
instantiate-requires-clause-acyclic c = one-acyclic c.args.pool.now c.args.one.now.meta c.args.one.now.term 0 c.requires.sort
