use Rattle.core_cases.specs.Acyclic.{none-in, none-acyclic}
use Rattle.core_cases.proofs.solved.same_term_of_none.Goals as goal

pub same_term-requires-clause-solutions : goal.same_term-requires-clause-solutions
same_term-requires-clause-solutions c = none-in c.args.pool.now

pub same_term-requires-clause-acyclic : goal.same_term-requires-clause-acyclic
same_term-requires-clause-acyclic c = none-acyclic c.args.pool.now
