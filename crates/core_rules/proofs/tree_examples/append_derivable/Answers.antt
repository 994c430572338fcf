-- The numbers, vectors, addition and append are derivable.
use Rattle.core_rules.proofs.Trees.Append.{append_derivable}
use Rattle.core_rules.proofs.tree_examples.append_derivable.Goals as goal

pub returns : goal.returns
returns c = append_derivable
