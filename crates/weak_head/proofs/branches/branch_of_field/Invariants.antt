use Rattle.std.proofs.Common.{◌≡◌, length}
use Rattle.core_rules.specs.Signature.{co_branch}
use Rattle.core_terms.specs.TreeView.{co_of}
use Rattle.weak_head.proofs.branches.branch_of_field.Given as goal

abbrev pub invariant-loop-left : goal.invariant-loop-left
invariant-loop-left l = co_branch (co_of l.branches) l.field ≡ co_branch (co_of l.left) l.field

abbrev pub decreases-loop-left : goal.decreases-loop-left
decreases-loop-left l = length l.left
