use Rattle.std.proofs.Common.{◌≡◌, ◌-◌, ◌∷◌, length, take, drop}
use Rattle.data_elab.specs.Eta.{Adds}
use Rattle.conversion.proofs.Slices.{unrolled, none_within}
use Rattle.data_elab.proofs.Mentions.{all-put, none-put, one-put}
use Rattle.data_elab.proofs.eta.types.Goals as goal

pub loop-left-init : goal.loop-left-init
loop-left-init c = rw c.new-queue.ensures (none-put c.args.fields.now)

pub loop-left-preserved : goal.loop-left-preserved
loop-left-preserved c =
    let left = c.loop-left.left.now in
    let e = c.field-item.result in
    let more = take (length left - 1) (drop 1 left) in
    let first : left ≡ e ∷ more = unrolled left e c.in-len1-up.len_at_least c.field-item.is in
    let adds : Adds c.loop-left.queue e.ty c.add.new.self = rw (← c.field.view_is) c.in_ok-add.ensures in
    one-put c.args.fields.now left more e c.loop-left.queue c.add.new.self first adds c.loop-left.invariant

pub returns : goal.returns
returns c = all-put c.args.fields.now c.loop-left.left.now c.loop-left.queue (none_within c.loop-left.left.now c.in_default.len_below) c.loop-left.invariant
