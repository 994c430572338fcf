use Rattle.core_print.proofs.Paging.{adds_under}
use Rattle.core_print.proofs.page.push_under.Goals as goal

pub returns : goal.returns
returns c = λ w p l. adds_under w p c.args.left.now.items c.push.new.self.items c.push-2.new.self.items c.push-3.new.self.items c.entering.result c.args.label.now c.args.body c.in_ok-push.ensures.items c.in_ok-push-2.ensures.items c.in_ok-push-3.ensures.items (c.entering.ensures.is w p) (c.entering.ensures.stands p) l
