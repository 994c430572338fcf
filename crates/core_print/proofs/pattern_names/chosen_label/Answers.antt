use Rattle.std.proofs.Common.{◌≡◌, ◌++◌, List, map, reverse, sym, ap, ap₂, ◌∙◌, cond}
use Rattle.std.proofs.lemmas.Result.{IfOk-weaker}
use Rattle.core_print.specs.Apart.{Text, different}
use Rattle.core_print.specs.Labels.{label_text}
use Rattle.core_print.specs.LeftSide.{chosen_name}
use Rattle.core_print.specs.Names.{called, name_text}
use Rattle.core_print.specs.Pages.{bound_in}
use Rattle.core_print.specs.Views.{variable_of, world_of}
use Rattle.core_print.specs.declared.label.Label.{Label}
use Rattle.core_print.proofs.Choosing.{names_so_far}
use Rattle.core_print.proofs.pattern_names.chosen_label.Goals as goal

pub returns : goal.returns
returns c =
    let w = world_of c.args.view.now in
    let f : Label → Text = label_text w.names in
    let v = variable_of c.args.variable.now in
    let taken : List Text = map f c.args.taken.now in
    let before : List Text = map (λ n. n.1) (bound_in w.names c.args.bound.now) in
    let x : Text = called (name_text w.names v.name) in
    let e : map f (reverse c.as_slice.result.now) ≡ before =
    ap (λ (ls : List Label). map f (reverse ls)) (c.as_slice.ensures.value ∙ c.in_ok-before.ensures) ∙ names_so_far w.names c.args.bound.now in
    IfOk-weaker c.choose.result (λ l. f l ≡ different (map f (reverse c.as_slice.result.now) ++ taken) _) (λ l. f l ≡ chosen_name w taken before v)
    (λ l h. h ∙ (ap₂ (λ (ns : List Text) (y : Text). different (ns ++ taken) y) e c.called-base.ensures ∙ ap (λ b. cond b (different (before ++ taken) x) (name_text w.names v.name)) (sym c.if-not-variable.false)))
    c.choose.ensures
