-- Solving looks at the types of variables.
use Rattle.core_rules.proofs.Trees.Solving.{solving_asks_for_types}
use Rattle.core_rules.proofs.tree_examples.solving_asks_for_types.Goals as goal

pub returns : goal.returns
returns c = solving_asks_for_types
