use Rattle.std.proofs.Common.{◌≡◌, ◌∙◌, ◌-◌, sym, ap, arith}
use Rattle.std.specs.Prelude.{None, option_map, slice_get}
use Rattle.std.proofs.lemmas.Option.{slice_get_past}
use Rattle.elab_machine.proofs.Labelled.{no-value, value-at, checks_of}
use Rattle.elab_machine.proofs.record.place_of.Goals as goal

pub returns-in_default-clause-is : goal.returns-in_default-clause-is
returns-in_default-clause-is c = λ g. sym (no-value g c.args.name 0 c.args.values.now (sym (c.requires c.args.name) ∙ sym c.get.ensures ∙ c.in_default.is))

pub returns-then-label-values-clause-is : goal.returns-then-label-values-clause-is
returns-then-label-values-clause-is c = λ g.
    let h = value-at g c.args.name 0 c.args.values.now c.in-Some.label (sym (c.requires c.args.name) ∙ sym c.get.ensures ∙ c.in-Some.is) in
    let at : slice_get c.args.values.now (c.in-Some.label.first - 0) ≡ None = slice_get_past c.args.values.now (c.in-Some.label.first - 0) (omega (arith, c.if-label-values.true)) in
    sym (h.1 ∙ ap (option_map (checks_of g)) at)

pub returns-clause-is : goal.returns-clause-is
returns-clause-is c = λ g.
    let h = value-at g c.args.name 0 c.args.values.now c.in-Some.label (sym (c.requires c.args.name) ∙ sym c.get.ensures ∙ c.in-Some.is) in
    let same : c.in-Some.label.first - 0 ≡ c.in-Some.label.first = omega arith in
    sym (h.1 ∙ ap (λ k. option_map (checks_of g) (slice_get c.args.values.now k)) same)
