use Rattle.lhs_elab.proofs.Keeping.{passed-none}
use Rattle.lhs_elab.proofs.moving.place.Goals as goal

pub loop-left-init : goal.loop-left-init
loop-left-init c = record { so = passed-none c.args.var c.args.keep.now }
