-- Without eta a head form is none of what the tree gives.
use Rattle.core_rules.proofs.Trees.Needed.{eta_is_needed}
use Rattle.core_rules.proofs.tree_examples.eta_is_needed.Goals as goal

pub returns : goal.returns
returns c = eta_is_needed
