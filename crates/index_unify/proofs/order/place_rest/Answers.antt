use Rattle.std.specs.Prelude.{◌-◌, ◌++◌}
use Rattle.std.proofs.Common.{arith}
use Rattle.index_unify.specs.Order.{waiting}
use Rattle.index_unify.proofs.Waits.{rest_skips, rest_takes, rest_done}
use Rattle.index_unify.proofs.order.place_rest.Goals as goal

pub loop-var-preserved : goal.loop-var-preserved
loop-var-preserved c =
    let v = c.loop-var.var in
    record {
      within = omega arith;
      is = rest_skips c.args.waits.now c.loop-var.placed.items (c.args.placed.now.items ++ waiting c.args.waits.now c.args.count) (v - 1) v (omega arith) c.if-waits-var.false c.loop-var.invariant.is;
    }

pub loop-var-preserved-in-Continue-1 : goal.loop-var-preserved-in-Continue-1
loop-var-preserved-in-Continue-1 c =
    let v = c.loop-var.var in
    record {
      within = omega arith;
      is = rest_takes c.args.waits.now c.loop-var.placed.items c.push.new.self.items (c.args.placed.now.items ++ waiting c.args.waits.now c.args.count) (v - 1) v (omega arith) c.if-waits-var.true c.in_ok-push.ensures.items c.loop-var.invariant.is;
    }

pub returns : goal.returns
returns c = rest_done c.args.waits.now c.loop-var.placed.items (c.args.placed.now.items ++ waiting c.args.waits.now c.args.count) c.loop-var.var c.loop-var-test.false c.loop-var.invariant.is
