use Rattle.core_rules.specs.UnifierAnswers.{answers}
use Rattle.kernel_rules.proofs.Trees.{tree-typed}
use Rattle.kernel_rules.proofs.decl_laws.accepted_tree_is_typed.Goals as goal

pub returns : goal.returns
returns c = λ g fuel depth u k T a l i x h. tree-typed g fuel depth i (answers u) x k T a l h
