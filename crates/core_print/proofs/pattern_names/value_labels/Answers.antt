use Rattle.std.proofs.Common.{◌∷◌, [], ◌++◌, ℕ, List, map, sym, ap, ap₂, ◌∙◌}
use Rattle.std.proofs.lemmas.List.{map-append}
use Rattle.core_rules.specs.Signature.{numbers}
use Rattle.core_print.specs.Apart.{Text}
use Rattle.core_print.specs.Labels.{label_text}
use Rattle.core_print.specs.LeftSide.{name_in}
use Rattle.core_print.specs.Pages.{bound_in}
use Rattle.core_print.specs.declared.label.Label.{Label}
use Rattle.core_print.proofs.Choosing.{numbers_more}
use Rattle.core_print.proofs.pattern_names.value_labels.Goals as goal

pub loop-place-preserved : goal.loop-place-preserved
loop-place-preserved c = λ ns.
    let f : Label → Text = label_text ns in
    let g : ℕ → Text = name_in (bound_in ns c.args.bound.now) in
    let n = c.loop-place.place in
    let l = c.label_at.result in
    ap (map f) c.in_ok-push.ensures.items
    ∙ (map-append f c.loop-place.labels.items (l ∷ [])
    ∙ (ap₂ (λ (xs : List Text) (x : Text). xs ++ x ∷ []) (c.loop-place.invariant ns) (c.label_at.ensures ns)
    ∙ (sym (map-append g (numbers 0 n) (n ∷ [])) ∙ ap (map g) (sym (numbers_more n)))))
