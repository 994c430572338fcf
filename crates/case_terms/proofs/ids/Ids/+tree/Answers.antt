use Rattle.std.proofs.Common.{arith}
use Rattle.case_terms.proofs.Sizes.{co_at, con_at}
use Rattle.case_terms.proofs.ids.Ids.+tree.Goals as goal

pub are_branches-is_on-requires : goal.are_branches-is_on-requires
are_branches-is_on-requires t c =
    (omega (arith, con_at c.args.branches.now c.loop-branch.branch-index c.branch-item.result c.loop-branch-test.true c.branch-item.is), c.requires)

pub are_fields-is_tree-requires : goal.are_fields-is_tree-requires
are_fields-is_tree-requires t c =
    (omega (arith, co_at c.args.branches.now c.loop-branch.branch-index c.branch-item.result c.loop-branch-test.true c.branch-item.is), c.requires)
