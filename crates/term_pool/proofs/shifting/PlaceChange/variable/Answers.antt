use Rattle.std.proofs.lemmas.Result.{on_ok_weaker}
use Rattle.term_pool.specs.Placed.{placed-stays}
use Rattle.term_pool.specs.Shifted.{IsReady-stays, within-stays}
use Rattle.term_pool.proofs.Shifts.{always}
use Rattle.term_pool.proofs.shifting.PlaceChange.variable.Goals as goal

pub returns-then-place-items-clause-same : goal.returns-then-place-items-clause-same
returns-then-place-items-clause-same c =
    always c.lifted.result (placed-stays c.args.self.now.at c.args.self.now.items.now c.args.self.now.beyond c.args.pool.now c.lifted.new.pool c.lifted.ensures.extends c.requires.ready.items)

pub returns-then-place-items-clause-ready : goal.returns-then-place-items-clause-ready
returns-then-place-items-clause-ready c =
    on_ok_weaker c.lifted.result (λ s. record { shifted = s; items = within-stays c.args.pool.now c.lifted.new.pool c.args.self.now.items.now c.lifted.ensures.extends c.requires.ready.items }) c.lifted.ensures.shifted

pub returns-clause-same : goal.returns-clause-same
returns-clause-same c =
    always c.add.result (placed-stays c.args.self.now.at c.args.self.now.items.now c.args.self.now.beyond c.args.pool.now c.add.new.self c.add.ensures.extends c.requires.ready.items)

pub returns-clause-ready : goal.returns-clause-ready
returns-clause-ready c = always c.add.result (IsReady-stays c.add.ensures.extends c.requires.ready)
