-- The derivation.
use Rattle.core_rules.proofs.Derivations.{pair_of_projections as derivation}
use Rattle.core_rules.proofs.examples.pair_of_projections.Goals as goal

pub returns : goal.returns
returns c = derivation
