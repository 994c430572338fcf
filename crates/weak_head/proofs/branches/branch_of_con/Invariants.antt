use Rattle.std.proofs.Common.{◌≡◌, length}
use Rattle.core_rules.specs.Signature.{con_branch}
use Rattle.core_terms.specs.TreeView.{con_of}
use Rattle.weak_head.proofs.branches.branch_of_con.Given as goal

abbrev pub invariant-loop-left : goal.invariant-loop-left
invariant-loop-left l = con_branch (con_of l.branches) l.con ≡ con_branch (con_of l.left) l.con

abbrev pub decreases-loop-left : goal.decreases-loop-left
decreases-loop-left l = length l.left
