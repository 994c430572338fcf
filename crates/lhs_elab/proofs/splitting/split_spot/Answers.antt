use Rattle.std.proofs.Common.{◌<◌, length, subst, arith}
use Rattle.lhs_elab.specs.Lefts.{SpotBelow}
use Rattle.lhs_elab.proofs.Splits.{moved-within}
use Rattle.lhs_elab.proofs.splitting.split_spot.Goals as goal

pub branch_spot-requires-clause-level : goal.branch_spot-requires-clause-level
branch_spot-requires-clause-level c =
    let l : c.in-Var.level < c.args.count = subst (SpotBelow (length c.args.pool.now.trees) c.args.count) c.in-Var.is c.requires.spot in
    let w = moved-within c.in-Var.level c.args.split c.args.new c.args.count (length c.args.context.now) c.if-level-split.false l c.requires.split c.requires.long in
    omega (arith, w, c.in_ok-there-in-Var.ensures)
