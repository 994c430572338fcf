use Rattle.std.proofs.Common.{◌≡◌, drop}
use Rattle.std.specs.List.{list_all}
use Rattle.elab_machine.specs.Labels.{is_once, labelled}
use Rattle.elab_machine.proofs.record.are_fields.Given as goal

abbrev pub invariant-loop-field : goal.invariant-loop-field
invariant-loop-field l = list_all (λ e. is_once (labelled l.labels e.name)) l.fields ≡ list_all (λ e. is_once (labelled l.labels e.name)) (drop l.field-index l.fields)
