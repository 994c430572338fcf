use Rattle.std.proofs.Common.{◌∙◌, sym}
use Rattle.core_rules.specs.UnifierAnswers.{answers}
use Rattle.kernel_rules.proofs.OneDecl.{one-tree}
use Rattle.kernel_rules.proofs.decl_laws.one_tree_outcome.Goals as goal

pub returns : goal.returns
returns c = λ g fuel depth u k T a l r q x y. one-tree g fuel depth (answers u) (λ c es v w d e. d ∙ sym e) k T a l r q x y
