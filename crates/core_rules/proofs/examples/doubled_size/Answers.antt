-- The derivation.
use Rattle.core_rules.proofs.Derivations.{doubled_size as derivation}
use Rattle.core_rules.proofs.examples.doubled_size.Goals as goal

pub returns : goal.returns
returns c = derivation
