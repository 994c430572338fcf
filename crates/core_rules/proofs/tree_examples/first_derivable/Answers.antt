-- The numbers, vectors and the first item of a vector are derivable.
use Rattle.core_rules.proofs.Trees.Append.{first_derivable}
use Rattle.core_rules.proofs.tree_examples.first_derivable.Goals as goal

pub returns : goal.returns
returns c = first_derivable
