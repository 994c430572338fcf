use Rattle.std.proofs.Common.{refl}
use Rattle.std.specs.Prelude.{length}
use Rattle.kernel_rules.proofs.OneDecl.{one-tree}
use Rattle.kernel_rules.proofs.DeclOutcome.{tree-outcome}
use Rattle.tree_kernel.specs.Reading.{UnifiesAs}
use Rattle.tree_kernel.proofs.AtH.{one_answer, answers_all}
use Rattle.tree_kernel.proofs.laws.exactly_one_tree_outcome.Goals as goal

pub returns : goal.returns
returns c = λ g fuel depth k T a l s.
    let r = tree-outcome g fuel depth (UnifiesAs g fuel depth) (answers_all g fuel depth) k (length k) T a l refl s in
    (r.0, r.1, λ q y. one-tree g fuel depth (UnifiesAs g fuel depth) (one_answer g fuel depth) k T a l q r.0 y r.1)
