use Rattle.std.proofs.Common.{◌≡◌, ◌+◌, ◌-◌, ◌++◌, suc, length, map, refl, arith}
use Rattle.core_rules.specs.Mapped.{branch_map}
use Rattle.term_pool.specs.Pool.{tree}
use Rattle.term_pool.specs.Growth.{Extends-refl, Extends-trans}
use Rattle.index_unify.specs.Unified.{context_in}
use Rattle.lhs_rules.specs.Spots.{branch_spots}
use Rattle.lhs_elab.specs.Lefts.{spot_in}
use Rattle.lhs_elab.proofs.Growing.{entries-larger}
use Rattle.lhs_elab.proofs.BranchGrowing.{branch-larger, spots-below-next, spots-next}
use Rattle.lhs_elab.proofs.branch.with_branch_spots.Goals as goal

pub loop-left-init : goal.loop-left-init
loop-left-init c = record { extends = Extends-refl c.args.pool.now; below = c.requires.spots; within = c.requires.within; is = refl }

pub branch_spot-requires-clause-context : goal.branch_spot-requires-clause-context
branch_spot-requires-clause-context c = entries-larger c.args.pool.now c.loop-left.pool c.loop-left.invariant.extends c.args.context.now c.requires.context

pub branch_spot-requires-clause-branch : goal.branch_spot-requires-clause-branch
branch_spot-requires-clause-branch c = branch-larger c.args.pool.now c.loop-left.pool c.loop-left.invariant.extends (length c.args.context.now) c.args.branch.now c.requires.branch

pub branch_spot-requires-clause-level : goal.branch_spot-requires-clause-level
branch_spot-requires-clause-level c = let i = c.loop-left.invariant.within in omega (arith, i, c.loop-left-test.true)

pub loop-left-preserved : goal.loop-left-preserved
loop-left-preserved c =
    let i = c.loop-left.invariant in
    let p = c.args.pool.now in
    let q = c.loop-left.pool in
    let r = c.branch_spot.new.pool in
    let es = c.args.context.now in
    let b = c.args.branch.now in
    let k = c.in_ok-spot.ensures in
    let at = c.loop-left.at in
    let left = c.loop-left.left in
    let one : left ≡ suc (left - 1) = omega (arith, c.loop-left-test.true) in
    let n : c.in-Some.next ≡ at + 1 = omega (arith, c.in-Some.ensures) in
    let end = map (spot_in (tree p)) c.args.spots.items ++ branch_spots (context_in p es) (branch_map (tree p) b) c.args.from c.args.count in
    record {
      extends = Extends-trans i.extends k.extends;
      below = spots-below-next p q r i.extends k.extends es b c.requires.context c.requires.branch c.loop-left.made.items c.push.new.self.items c.in_ok-spot.spot c.in_ok-push.ensures.items i.below k.below;
      within = let w = i.within in omega (arith, w, n, one);
      is = spots-next p q r i.extends k.extends es b c.requires.context c.requires.branch c.loop-left.made.items c.push.new.self.items c.in_ok-spot.spot c.in_ok-push.ensures.items i.below at c.in-Some.next left end n one k.is i.is;
    }
