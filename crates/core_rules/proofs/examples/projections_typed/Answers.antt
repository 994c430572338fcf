-- The derivation.
use Rattle.core_rules.proofs.Derivations.{projections_typed as derivation}
use Rattle.core_rules.proofs.examples.projections_typed.Goals as goal

pub returns : goal.returns
returns c = derivation
