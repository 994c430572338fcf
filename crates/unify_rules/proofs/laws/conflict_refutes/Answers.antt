-- A conflict refutes.
use Rattle.unify_rules.proofs.WithSolutions.{by_steps, refutes}
use Rattle.unify_rules.specs.Unifier.{Conflict}
use Rattle.core_rules.specs.Unification.{begin}
use Rattle.unify_rules.proofs.laws.conflict_refutes.Goals as goal

pub returns : goal.returns
returns c = λ g fuel depth n c es j k i y d. refutes g c es (by_steps g fuel depth (begin c es) (Conflict j k) n i y d)
