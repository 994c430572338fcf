use Rattle.std.proofs.Common.{◌≡◌, ℕ, List, map}
use Rattle.core_rules.specs.Signature.{numbers}
use Rattle.core_print.specs.Labels.{label_text}
use Rattle.core_print.specs.LeftSide.{name_in}
use Rattle.core_print.specs.Pages.{bound_in}
use Rattle.core_print.proofs.pattern_names.value_labels.Given as goal

abbrev pub invariant-loop-place : goal.invariant-loop-place
invariant-loop-place l = (ns : List (List ℕ)) → map (label_text ns) l.labels.items ≡ map (name_in (bound_in ns l.bound)) (numbers 0 l.place)
