use Rattle.std.proofs.Common.{refl}
use Rattle.term_pool.specs.Pool.{tree}
use Rattle.core_print.specs.declared.page.Work.TheVariants as W
use Rattle.core_print.specs.Pages.{placed}
use Rattle.core_print.proofs.Paging.{adds_one}
use Rattle.core_print.proofs.page.push_show.Goals as goal

pub returns : goal.returns
returns c = λ w p l. adds_one w p c.args.left.now.items c.push.new.self.items (W.Show c.args.place c.args.term) (λ ns. placed c.args.place w ns (tree p c.args.term)) c.in_ok-push.ensures.items l (λ ns. refl)
