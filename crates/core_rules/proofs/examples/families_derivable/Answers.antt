-- The derivation.
use Rattle.core_rules.proofs.Derivations.{families_derivable as derivation}
use Rattle.core_rules.proofs.examples.families_derivable.Goals as goal

pub returns : goal.returns
returns c = derivation
