-- The derivation.
use Rattle.core_rules.proofs.Derivations.{postulates_derivable as derivation}
use Rattle.core_rules.proofs.examples.postulates_derivable.Goals as goal

pub returns : goal.returns
returns c = derivation
