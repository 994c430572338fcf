-- The derivation.
use Rattle.core_rules.proofs.Trees.Addition.{derivation}
use Rattle.core_rules.proofs.tree_examples.addition_derivable.Goals as goal

pub returns : goal.returns
returns c = derivation
