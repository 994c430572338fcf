-- The derivation.
use Rattle.core_rules.proofs.Derivations.{projection_of_pair as derivation}
use Rattle.core_rules.proofs.examples.projection_of_pair.Goals as goal

pub returns : goal.returns
returns c = derivation
