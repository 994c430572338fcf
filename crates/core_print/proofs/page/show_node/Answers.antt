use Rattle.std.proofs.Common.{[], length, refl, sym, ap, subst}
use Rattle.std.specs.Prelude.{string_bytes}
use Rattle.std.proofs.lemmas.List.{append-nil}
use Rattle.std.proofs.lemmas.Result.{on_ok_weaker}
use Rattle.core_rules.specs.Term.{App}
use Rattle.term_pool.specs.Pool.{Below, node_tree, tree}
use Rattle.core_print.specs.declared.page.Page.{Page}
use Rattle.core_print.specs.Pages.{names_in}
use Rattle.core_print.specs.Printed.{shown}
use Rattle.core_print.specs.Views.{world_of}
use Rattle.core_print.proofs.Paging.{comes}
use Rattle.core_print.proofs.page.show_node.Goals as goal

pub returns-in-App : goal.returns-in-App
returns-in-App c =
    let w = world_of c.args.source.now.view in
    let p = c.args.source.now.pool.now in
    let x = c.args.page.now in
    let y : Page = record { out = x.out; inside = x.inside; left = c.show_app.new.left } in
    let ns = names_in w.names x.inside.items in
    let b = subst (Below (tree p) (length p.trees)) c.in-App.is c.requires.below in
    on_ok_weaker c.show_app.result
    (λ h. comes w p x y [] (λ ns. shown w ns (App c.in-App.flag (tree p c.in-App.fun) (tree p c.in-App.arg))) (shown w ns (node_tree (tree p) c.args.node.now)) (sym (append-nil (string_bytes x.out))) refl (h w p b.0 b.1)
    (ap (λ n. shown w ns (node_tree (tree p) n)) (sym c.in-App.is)))
    c.show_app.ensures
