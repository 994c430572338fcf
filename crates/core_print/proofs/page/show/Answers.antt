use Rattle.std.proofs.Common.{true, false, sym, ap, ◌∙◌, subst}
use Rattle.std.specs.Prelude.{string_bytes, codes}
use Rattle.std.proofs.lemmas.Result.{on_ok_weaker}
use Rattle.term_pool.specs.Pool.{node_tree, tree}
use Rattle.core_print.specs.Pages.{Adds, Comes, names_in}
use Rattle.core_print.specs.Printed.{shown, parens_if}
use Rattle.core_print.specs.Views.{world_of}
use Rattle.core_print.proofs.Paging.{comes_enclosed, placed_node}
use Rattle.core_print.proofs.page.show.Goals as goal
use Rattle.core_print.proofs.page.show.Goals.{then-encloses+in_ok-push_str+in_ok-push_piece, else-encloses}

pub returns : goal.returns
returns c =
    let w = world_of c.args.source.now.view in
    let p = c.args.source.now.pool.now in
    let x = c.args.page.now in
    let y = c.if-encloses.page in
    let z = c.show_node.new.page in
    let n = c.node-node.result in
    let e = sym c.node-node.ensures.is ∙ c.visible-t.ensures.is in
    elim c.if-encloses.branch [
      | then-encloses+in_ok-push_str+in_ok-push_piece b ↦
          on_ok_weaker c.show_node.result
          (λ k. subst (Comes w p x z)
          (ap (λ ls. parens_if true (shown w (names_in w.names ls) (node_tree (tree p) n))) (ap (λ q. q.inside.items) b.page-is)
          ∙ placed_node c.args.place w (names_in w.names x.inside.items) (tree p) n (tree p c.args.t) true e (sym c.encloses.ensures ∙ b.if-encloses.true))
          (comes_enclosed w p x y z (shown w (names_in w.names y.inside.items) (node_tree (tree p) n)) (ap (λ q. string_bytes q.out) b.page-is ∙ b.in_ok-push_str.ensures.bytes) (ap (λ q. q.inside.items) b.page-is)
          (subst (λ q. Adds w p x.left.items q.left.items (λ ns. codes ")")) (sym b.page-is) (b.in_ok-push_piece.ensures w p)) k))
          c.show_node.ensures
      | else-encloses b ↦
          on_ok_weaker c.show_node.result
          (λ k. subst (Comes w p x z) (placed_node c.args.place w (names_in w.names x.inside.items) (tree p) n (tree p c.args.t) false e (sym c.encloses.ensures ∙ b.if-encloses.false))
          (subst (λ q. Comes w p q z (shown w (names_in w.names q.inside.items) (node_tree (tree p) n))) b.page-is k))
          c.show_node.ensures
    ]
