use Rattle.std.proofs.Common.{◌≡◌, ℕ, ◌++◌, map, reverse, length, List, sym, ap, ◌∙◌, arith, length-append}
use Rattle.core_print.specs.Apart.{different}
use Rattle.core_print.specs.Labels.{label_text, primed, Marks, first_false}
use Rattle.std.proofs.lemmas.List.{length-reverse, length-map}
use Rattle.core_print.proofs.Marking.{chosen}
use Rattle.core_print.proofs.label.choose.Goals as goal

pub returns : goal.returns
returns c =
    let ns = c.args.names.now in
    let x = c.base_text-text.result.now in
    let others : List (List ℕ) = map (label_text ns) c.args.others.now in
    let inside : List (List ℕ) = map (label_text ns) (reverse c.args.inside.now) in
    let m : Marks (inside ++ others) x c.mark_inside.new.marks.items = c.mark_inside.ensures.marks others (c.mark_others.ensures.marks (c.in_ok-marks.ensures.marks x)) in
    let l : length c.mark_inside.new.marks.items ≡ length (inside ++ others) =
    omega (arith, c.mark_inside.ensures.same_length, c.mark_others.ensures.same_length, c.in_ok-marks.ensures.length, c.in-Some.ensures.1, length-append inside others, length-map (reverse c.args.inside.now) (label_text ns), length-map c.args.others.now (label_text ns), length-reverse c.args.inside.now) in
    ap (λ (t : List ℕ). primed t c.first_unset-primes.result) (sym c.base_text-text.ensures) ∙ (ap (primed x) (c.first_unset-primes.ensures ∙ ap first_false c.as_slice.ensures.value) ∙ chosen x (inside ++ others) c.mark_inside.new.marks.items m l ∙ ap (different (inside ++ others)) c.base_text-text.ensures)
