use Rattle.std.proofs.Common.{refl}
use Rattle.core_print.specs.declared.page.Work.TheVariants as W
use Rattle.core_print.specs.Pages.{piece_text}
use Rattle.core_print.proofs.Paging.{adds_one}
use Rattle.core_print.proofs.page.push_piece.Goals as goal

pub returns : goal.returns
returns c = λ w p. adds_one w p c.args.left.now.items c.push.new.items.items (W.Write c.args.piece) (λ ns. piece_text c.args.piece) c.in_ok-push.ensures tt (λ ns. refl)
