use Rattle.std.proofs.Common.{refl, arith, length, ◌≡◌, ◌+◌, ◌-◌}
use Rattle.term_pool.proofs.ArgLists.{left_first, left_next}
use Rattle.term_pool.proofs.pool.TermPool.add_args.Goals as goal

pub loop-left-init : goal.loop-left-init
loop-left-init c = left_first c.args.self.now c.add.new.self c.args.ids.now (length c.args.ids.now) c.in_ok-list.list refl c.add.ensures.extends c.in_ok-list.ensures.stands

pub loop-left-preserved : goal.loop-left-preserved
loop-left-preserved c =
    let n : c.loop-left.left ≡ (c.loop-left.left - 1) + 1 = omega arith in
    left_next c.args.self.now c.loop-left.self c.add-in-loop-left.new.self c.args.ids.now c.loop-left.left (c.loop-left.left - 1) c.index-ids-left.result c.loop-left.list c.in_ok-list-2.list c.loop-left.invariant n c.index-ids-left.is c.requires
    c.add-in-loop-left.ensures.extends c.in_ok-list-2.ensures.stands
