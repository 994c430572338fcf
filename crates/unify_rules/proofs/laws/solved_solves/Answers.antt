-- Solved: the solutions solve.
use Rattle.unify_rules.proofs.WithSolutions.{by_steps}
use Rattle.unify_rules.specs.Unifier.{Solved}
use Rattle.core_rules.specs.Unification.{begin}
use Rattle.unify_rules.proofs.laws.solved_solves.Goals as goal

pub returns : goal.returns
returns c = λ g fuel depth n c es ts ss i y d. record { types = ts; steps = by_steps g fuel depth (begin c es) (Solved ts ss) n i y d }
