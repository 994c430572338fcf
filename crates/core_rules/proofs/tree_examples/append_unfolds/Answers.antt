-- Append unfolds at both constructors.
use Rattle.core_rules.proofs.Trees.Append.{append_unfolds}
use Rattle.core_rules.proofs.tree_examples.append_unfolds.Goals as goal

pub returns : goal.returns
returns c = append_unfolds
