-- The derivation.
use Rattle.core_rules.proofs.Trees.Vector.{first_typed as derivation}
use Rattle.core_rules.proofs.tree_examples.first_typed.Goals as goal

pub returns : goal.returns
returns c = derivation
