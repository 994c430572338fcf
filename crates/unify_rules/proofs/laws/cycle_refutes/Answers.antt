-- A cycle refutes.
use Rattle.unify_rules.proofs.WithSolutions.{by_steps, refutes}
use Rattle.unify_rules.specs.Unifier.{Cycle}
use Rattle.core_rules.specs.Unification.{begin}
use Rattle.unify_rules.proofs.laws.cycle_refutes.Goals as goal

pub returns : goal.returns
returns c = λ g fuel depth n c es x i y d. refutes g c es (by_steps g fuel depth (begin c es) (Cycle x) n i y d)
