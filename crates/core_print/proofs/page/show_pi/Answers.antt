use Rattle.std.proofs.Common.{true, false, [], ◌∷◌, ◌++◌, refl, sym, ◌∙◌, subst, append_assoc}
use Rattle.std.specs.Prelude.{string_bytes, codes}
use Rattle.std.proofs.lemmas.List.{append-nil}
use Rattle.std.proofs.lemmas.Result.{on_ok_weaker}
use Rattle.core_rules.specs.declared.Flag.TheVariants.{Explicit, Implicit}
use Rattle.core_rules.specs.Term.{Pi, occurs}
use Rattle.term_pool.specs.Pool.{tree}
use Rattle.core_print.specs.declared.page.Page.{Page}
use Rattle.core_print.specs.Labels.{label_text}
use Rattle.core_print.specs.Pages.{Comes, names_in}
use Rattle.core_print.specs.Printed.{shown, arrow, kind, in_front, parens_if}
use Rattle.core_print.specs.Views.{world_of}
use Rattle.core_print.proofs.Paging.{binder, braced, comes_pi, adds_two}
use Rattle.core_print.proofs.page.show_pi.Goals as goal

pub returns-in_ok-push_show-in-Explicit : goal.returns-in_ok-push_show-in-Explicit
returns-in_ok-push_show-in-Explicit c =
    let w = world_of c.args.source.now.view in
    let p = c.args.source.now.pool.now in
    let x = c.args.page.now in
    let y : Page = record { out = c.open_binder.new.out; inside = x.inside; left = c.push_show.new.left } in
    let l = c.in_ok-label.label in
    let d = c.args.parts.0 in
    let t = c.args.parts.1 in
    let q = binder w x.inside.items c.as_slice.result.now c.args.source.now.globals.now l c.called-base.result c.args.name c.in_ok-label.ensures c.as_slice.ensures.value c.requires.given c.called-base.ensures in
    let h = adds_two w p (adds_two w p (c.in_ok-push_under.ensures w p c.requires.cod) (c.in_ok-push_piece-in-Explicit.ensures w p)) (c.in_ok-push_show-in-Explicit.ensures w p c.requires.dom) in
    on_ok_weaker c.open_binder.result
    (λ e. subst (λ b. Comes w p x y (shown w (names_in w.names x.inside.items) (Pi b c.args.name (tree p d) (tree p t)))) (sym c.in-Explicit.is)
    (comes_pi w p x y Explicit c.args.name l d t true (codes "(" ++ (label_text w.names l ++ codes " : ")) (λ ns. shown w ns (tree p d) ++ ((codes ")" ++ arrow) ++ shown w (label_text w.names l ∷ ns) (tree p t))) q
    (sym c.in_ok-occurs-in-Explicit.ensures ∙ c.if-branch.true) e refl h (λ ns. braced (codes "(") (label_text w.names l) (codes " : ") (shown w ns (tree p d)) (codes ")" ++ arrow) (shown w (label_text w.names l ∷ ns) (tree p t)))))
    c.open_binder.ensures

pub returns-in_ok-push_piece-in-Explicit-2 : goal.returns-in_ok-push_piece-in-Explicit-2
returns-in_ok-push_piece-in-Explicit-2 c =
    let w = world_of c.args.source.now.view in
    let p = c.args.source.now.pool.now in
    let x = c.args.page.now in
    let y : Page = record { out = x.out; inside = x.inside; left = c.push_show-else-branch.new.left } in
    let l = c.in_ok-label.label in
    let d = c.args.parts.0 in
    let t = c.args.parts.1 in
    let q = binder w x.inside.items c.as_slice.result.now c.args.source.now.globals.now l c.called-base.result c.args.name c.in_ok-label.ensures c.as_slice.ensures.value c.requires.given c.called-base.ensures in
    on_ok_weaker c.push_show-else-branch.result
    (λ e. subst (λ b. Comes w p x y (shown w (names_in w.names x.inside.items) (Pi b c.args.name (tree p d) (tree p t)))) (sym c.in-Explicit.is)
    (comes_pi w p x y Explicit c.args.name l d t false [] (λ ns. parens_if (in_front (kind (tree p d))) (shown w ns (tree p d)) ++ (arrow ++ shown w (label_text w.names l ∷ ns) (tree p t))) q
    (sym c.in_ok-occurs-in-Explicit.ensures ∙ c.if-branch.false) (sym (append-nil (string_bytes x.out))) refl
    (adds_two w p (adds_two w p (c.in_ok-push_under.ensures w p c.requires.cod) (c.in_ok-push_piece-in-Explicit-2.ensures w p)) (e w p c.requires.dom))
    (λ ns. sym (append_assoc (parens_if (in_front (kind (tree p d))) (shown w ns (tree p d))) arrow (shown w (label_text w.names l ∷ ns) (tree p t))))))
    c.push_show-else-branch.ensures

pub returns-in_ok-push_show-in-Implicit : goal.returns-in_ok-push_show-in-Implicit
returns-in_ok-push_show-in-Implicit c =
    let w = world_of c.args.source.now.view in
    let p = c.args.source.now.pool.now in
    let x = c.args.page.now in
    let y : Page = record { out = c.open_binder-in-Implicit.new.out; inside = x.inside; left = c.push_show-in-Implicit.new.left } in
    let l = c.in_ok-label.label in
    let d = c.args.parts.0 in
    let t = c.args.parts.1 in
    let q = binder w x.inside.items c.as_slice.result.now c.args.source.now.globals.now l c.called-base.result c.args.name c.in_ok-label.ensures c.as_slice.ensures.value c.requires.given c.called-base.ensures in
    let h = adds_two w p (adds_two w p (c.in_ok-push_under.ensures w p c.requires.cod) (c.in_ok-push_piece-in-Implicit.ensures w p)) (c.in_ok-push_show-in-Implicit.ensures w p c.requires.dom) in
    on_ok_weaker c.open_binder-in-Implicit.result
    (λ e. subst (λ b. Comes w p x y (shown w (names_in w.names x.inside.items) (Pi b c.args.name (tree p d) (tree p t)))) (sym c.in-Implicit.is)
    (comes_pi w p x y Implicit c.args.name l d t (occurs 0 (tree p t)) (codes "{" ++ (label_text w.names l ++ codes " : ")) (λ ns. shown w ns (tree p d) ++ ((codes "}" ++ arrow) ++ shown w (label_text w.names l ∷ ns) (tree p t))) q
    refl e refl h (λ ns. braced (codes "{") (label_text w.names l) (codes " : ") (shown w ns (tree p d)) (codes "}" ++ arrow) (shown w (label_text w.names l ∷ ns) (tree p t)))))
    c.open_binder-in-Implicit.ensures
