use Rattle.std.proofs.Common.{sym, ap}
use Rattle.core_rules.specs.Term.{App}
use Rattle.term_pool.specs.Pool.{tree}
use Rattle.core_print.specs.Printed.{shown}
use Rattle.core_print.proofs.Paging.{adds_two, adds_as}
use Rattle.core_print.proofs.page.show_app.Goals as goal

pub returns-in_ok-push_show-in-Explicit-2 : goal.returns-in_ok-push_show-in-Explicit-2
returns-in_ok-push_show-in-Explicit-2 c = λ w p l m.
    adds_as w p (λ ns. ap (λ b. shown w ns (App b (tree p c.args.fun) (tree p c.args.arg))) (sym c.in-Explicit.is))
    (adds_two w p (adds_two w p (c.in_ok-push_show-in-Explicit.ensures w p m) (c.in_ok-push_piece-in-Explicit.ensures w p)) (c.in_ok-push_show-in-Explicit-2.ensures w p l))
