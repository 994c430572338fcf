-- The derivation.
use Rattle.core_rules.proofs.Derivations.{pair_typed as derivation}
use Rattle.core_rules.proofs.examples.pair_typed.Goals as goal

pub returns : goal.returns
returns c = derivation
