use Rattle.std.proofs.Common.{refl}
use Rattle.std.specs.Prelude.{length}
use Rattle.kernel_rules.proofs.Trees.{tree-typed}
use Rattle.unify_rules.specs.Answered.{UnifiesTo}
use Rattle.tree_kernel.proofs.Scoped.{tree-scoped}
use Rattle.tree_kernel.proofs.laws.accepted_tree_is_typed.Goals as goal

pub returns : goal.returns
returns c = λ g fuel depth k T a l i x s y z h.
    tree-typed g fuel depth i (UnifiesTo g fuel depth) (c.answers_unify.ensures g fuel depth i) k T a l
    (tree-scoped g fuel depth i k (length k) T a l refl x y z s h)
