use Rattle.std.proofs.Common.{sym}
use Rattle.data_elab.proofs.Mentions.{opens-two}
use Rattle.data_elab.proofs.eta.look.Goals as goal

pub returns-in_ok-add-2 : goal.returns-in_ok-add-2
returns-in_ok-add-2 c =
    let n = c.node-node in
    opens-two c.args.pool.now c.args.fam c.args.t n.result c.in-Two.first c.in-Two.second c.in-Two.binds c.requires n.ensures.below n.ensures.is (sym c.in-Two.ensures) c.args.queue.now c.add.new.self c.add-in-Two.new.self c.in_ok-add.ensures
    c.in_ok-add-2.ensures
