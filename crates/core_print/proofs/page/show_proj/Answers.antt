use Rattle.std.proofs.Common.{refl}
use Rattle.core_print.specs.declared.page.Work.TheVariants as W
use Rattle.core_print.specs.Names.{field_text}
use Rattle.core_print.specs.Views.{world_of}
use Rattle.core_print.proofs.Paging.{adds_one, adds_two}
use Rattle.core_print.proofs.page.show_proj.Goals as goal

pub returns : goal.returns
returns c = λ p l.
    let w = world_of c.args.view.now in
    adds_two w p (adds_two w p (adds_one w p c.args.left.now.items c.push.new.items.items (W.Field c.args.field) (λ ns. field_text w c.args.field) c.in_ok-push.ensures tt (λ ns. refl)) (c.in_ok-push_piece.ensures w p)) (c.in_ok-push_show.ensures w p l)
