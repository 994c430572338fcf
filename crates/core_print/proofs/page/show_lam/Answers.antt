use Rattle.std.proofs.Common.{◌++◌, refl, sym, subst}
use Rattle.std.specs.Prelude.{string_bytes, codes}
use Rattle.core_rules.specs.declared.Flag.TheVariants.{Explicit, Implicit}
use Rattle.core_rules.specs.Term.{Lam}
use Rattle.term_pool.specs.Pool.{tree}
use Rattle.core_print.specs.declared.page.Page.{Page}
use Rattle.core_print.specs.Labels.{label_text}
use Rattle.core_print.specs.Pages.{Comes, names_in}
use Rattle.core_print.specs.Printed.{shown, lambda, arrow}
use Rattle.core_print.specs.Views.{world_of}
use Rattle.core_print.proofs.Paging.{binder, comes_lam}
use Rattle.core_print.proofs.Writing.{written_three}
use Rattle.core_print.proofs.page.show_lam.Goals as goal

pub returns-in_ok-push_str-in-Explicit-2 : goal.returns-in_ok-push_str-in-Explicit-2
returns-in_ok-push_str-in-Explicit-2 c =
    let w = world_of c.args.source.now.view in
    let p = c.args.source.now.pool.now in
    let x = c.args.page.now in
    let y : Page = record { out = c.push_str-in-Explicit.new.self; inside = x.inside; left = c.push_under.new.left } in
    let l = c.in_ok-label.label in
    let q = binder w x.inside.items c.as_slice.result.now c.args.source.now.globals.now l c.called-base.result c.args.name c.in_ok-label.ensures c.as_slice.ensures.value c.requires.given c.called-base.ensures in
    let e = written_three (string_bytes x.out) lambda (label_text w.names l) arrow (string_bytes c.push_str.new.self) (string_bytes c.write_label.new.out) (string_bytes y.out) c.in_ok-push_str-in-Explicit.ensures.bytes c.in_ok-write_label-in-Explicit.ensures c.in_ok-push_str-in-Explicit-2.ensures.bytes in
    subst (λ b. Comes w p x y (shown w (names_in w.names x.inside.items) (Lam b c.args.name (tree p c.args.parts.0) (tree p c.args.parts.1)))) (sym c.in-Explicit.is)
    (comes_lam w p x y Explicit c.args.name l (tree p c.args.parts.0) c.args.parts.1 q e refl (c.in_ok-push_under.ensures w p c.requires.body))

pub returns-in_ok-push_str-in-Implicit-2 : goal.returns-in_ok-push_str-in-Implicit-2
returns-in_ok-push_str-in-Implicit-2 c =
    let w = world_of c.args.source.now.view in
    let p = c.args.source.now.pool.now in
    let x = c.args.page.now in
    let y : Page = record { out = c.push_str-in-Implicit-2.new.self; inside = x.inside; left = c.push_under.new.left } in
    let l = c.in_ok-label.label in
    let q = binder w x.inside.items c.as_slice.result.now c.args.source.now.globals.now l c.called-base.result c.args.name c.in_ok-label.ensures c.as_slice.ensures.value c.requires.given c.called-base.ensures in
    let e = written_three (string_bytes x.out) (lambda ++ codes "{") (label_text w.names l) (codes "}" ++ arrow) (string_bytes c.push_str-in-Implicit.new.self) (string_bytes c.write_label-in-Implicit.new.out) (string_bytes y.out) c.in_ok-push_str-in-Implicit.ensures.bytes c.in_ok-write_label-in-Implicit.ensures c.in_ok-push_str-in-Implicit-2.ensures.bytes in
    subst (λ b. Comes w p x y (shown w (names_in w.names x.inside.items) (Lam b c.args.name (tree p c.args.parts.0) (tree p c.args.parts.1)))) (sym c.in-Implicit.is)
    (comes_lam w p x y Implicit c.args.name l (tree p c.args.parts.0) c.args.parts.1 q e refl (c.in_ok-push_under.ensures w p c.requires.body))
