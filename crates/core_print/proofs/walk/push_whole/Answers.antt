use Rattle.core_print.specs.declared.walk.What.TheVariants as W
use Rattle.core_print.proofs.Walking.{leaves_one}
use Rattle.core_print.proofs.walk.push_whole.Goals as goal

pub returns : goal.returns
returns c = λ p l. leaves_one p c.args.pending.now.items c.push.new.self.items (record { what = W.Whole c.args.t; under = c.args.under }) c.in_ok-push.ensures.items l
