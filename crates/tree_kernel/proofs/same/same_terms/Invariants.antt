use Rattle.std.specs.Prelude.{length}
use Rattle.tree_kernel.proofs.Sames.{TermsLeft}
use Rattle.tree_kernel.proofs.same.same_terms.Given as goal

abbrev pub invariant-loop-left : goal.invariant-loop-left
invariant-loop-left l = TermsLeft l.pool l.terms l.others l.left l.right

abbrev pub decreases-loop-left : goal.decreases-loop-left
decreases-loop-left l = length l.left
