use Rattle.std.proofs.Common.{sym, ◌∙◌}
use Rattle.data_elab.proofs.Mentions.{begun, ended, found, is-below, look-found, look-opens, opened}
use Rattle.data_elab.proofs.eta.stands_in.Goals as goal

pub loop-at-init : goal.loop-at-init
loop-at-init c = begun c.args.pool.now c.args.fam c.args.fields.now c.in_ok-queue.queue c.requires c.in_ok-queue.ensures

pub returns-in_default : goal.returns-in_default
returns-in_default c = ended c.args.pool.now c.args.fam c.args.fields.now c.loop-at.queue c.loop-at.at c.loop-at.invariant (sym c.get.ensures ∙ c.in_default.is)

pub look-requires : goal.look-requires
look-requires c = is-below c.args.pool.now c.args.fam c.args.fields.now c.loop-at.queue c.loop-at.at c.in-Some.t c.loop-at.invariant (sym c.get.ensures ∙ c.in-Some.is)

pub returns-then-branch : goal.returns-then-branch
returns-then-branch c =
    found c.args.pool.now c.args.fam c.args.fields.now c.loop-at.queue c.loop-at.at c.in-Some.t c.loop-at.invariant (sym c.get.ensures ∙ c.in-Some.is)
    (look-found c.args.pool.now c.args.fam c.in-Some.t c.loop-at.queue c.look.new.queue c.in_ok-look.field-0 c.in_ok-look.ensures c.if-branch.true)

pub loop-at-preserved : goal.loop-at-preserved
loop-at-preserved c =
    opened c.args.pool.now c.args.fam c.args.fields.now c.loop-at.queue c.look.new.queue c.loop-at.at c.in-Some.t c.loop-at.invariant (sym c.get.ensures ∙ c.in-Some.is)
    (look-opens c.args.pool.now c.args.fam c.in-Some.t c.loop-at.queue c.look.new.queue c.in_ok-look.field-0 c.in_ok-look.ensures c.if-branch.false)
