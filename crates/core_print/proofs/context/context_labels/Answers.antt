use Rattle.std.proofs.Common.{◌-◌, ◌∷◌, [], List, length, map, reverse, ap, ap₂, ◌∙◌, arith, length-append}
use Rattle.std.proofs.lemmas.List.{append-nil}
use Rattle.core_print.specs.Apart.{Text, different}
use Rattle.core_print.specs.Labels.{label_text}
use Rattle.core_print.specs.Views.{world_of}
use Rattle.core_print.specs.declared.label.Label.{Label}
use Rattle.core_print.proofs.Contexts.{names_more}
use Rattle.core_print.proofs.context.context_labels.Goals as goal

pub loop-left-preserved : goal.loop-left-preserved
loop-left-preserved c =
    let w = world_of c.args.view.now in
    let f : Label → Text = label_text w.names in
    let n = c.loop-left.left - 1 in
    let ls = c.loop-left.labels.items in
    let l = c.in_ok-label.label in
    record {
      within = omega arith;
      length = omega (arith, ap length c.in_ok-push.ensures.items, length-append ls (l ∷ []));
      is = names_more w c.as_slice-entries.result.now c.loop-left.left n c.index-entries-left.result c.name_of.result ls c.push.new.self.items l
          (omega arith) (omega arith) c.index-entries-left.is c.name_of.ensures c.loop-left.invariant.is c.in_ok-push.ensures.items
          (c.in_ok-label.ensures ∙ ap₂ different (append-nil (map f (reverse c.as_slice.result.now)) ∙ ap (λ (ks : List Label). map f (reverse ks)) c.as_slice.ensures.value) c.called-base.ensures);
    }
