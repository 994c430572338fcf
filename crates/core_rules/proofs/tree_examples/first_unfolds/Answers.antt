-- The first item of a vector unfolds.
use Rattle.core_rules.proofs.Trees.Append.{first_unfolds}
use Rattle.core_rules.proofs.tree_examples.first_unfolds.Goals as goal

pub returns : goal.returns
returns c = first_unfolds
