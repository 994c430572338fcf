-- Where a variable is kept twice a head form is none of what the tree gives.
use Rattle.core_rules.proofs.Trees.Needed.{keeping_apart_is_needed}
use Rattle.core_rules.proofs.tree_examples.keeping_apart_is_needed.Goals as goal

pub returns : goal.returns
returns c = keeping_apart_is_needed
