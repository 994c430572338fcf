use Rattle.core_cases.specs.Acyclic.{one-in, one-acyclic}
use Rattle.core_cases.proofs.solved.is_same.Goals as goal

pub same_term-requires-clause-solutions : goal.same_term-requires-clause-solutions
same_term-requires-clause-solutions c = one-in c.args.pool.now c.args.one.now.meta c.args.one.now.term c.requires.solution

pub same_term-requires-clause-acyclic : goal.same_term-requires-clause-acyclic
same_term-requires-clause-acyclic c = one-acyclic c.args.pool.now c.args.one.now.meta c.args.one.now.term 0 c.requires.sort
