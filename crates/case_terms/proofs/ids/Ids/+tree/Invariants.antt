use Rattle.std.proofs.Common.{◌+◌, ◌*◌, ◌∷◌, [], drop}
use Rattle.core_terms.specs.Sizes.{tree_size, co_size, con_size}
use Rattle.core_terms.specs.TreeView.{co_of, con_of}
use Rattle.case_terms.specs.KnownTrees.{AreBranchesUnder, AreFieldsUnder}
use Rattle.case_terms.proofs.ids.Ids.+tree.Given as goal

abbrev pub invariant-are_fields-loop-branch : goal.invariant-are_fields-loop-branch
invariant-are_fields-loop-branch l = AreFieldsUnder l.self l.under (co_of (drop l.branch-index l.branches)) → AreFieldsUnder l.self l.under (co_of l.branches)

abbrev pub invariant-are_branches-loop-branch : goal.invariant-are_branches-loop-branch
invariant-are_branches-loop-branch l =
    AreBranchesUnder l.self l.under (con_of (drop l.branch-index l.branches)) → AreBranchesUnder l.self l.under (con_of l.branches)

abbrev pub decreases-is_tree : goal.decreases-is_tree
decreases-is_tree l = 3 * tree_size l.tree.now + 2

abbrev pub decreases-are_fields : goal.decreases-are_fields
decreases-are_fields l = 3 * co_size (co_of l.branches.now) + 1

abbrev pub decreases-are_branches : goal.decreases-are_branches
decreases-are_branches l = 3 * con_size (con_of l.branches.now) + 1

abbrev pub decreases-is_on : goal.decreases-is_on
decreases-is_on l = 3 * con_size (con_of (l.branch.now ∷ []))
