use Rattle.std.proofs.Common.{◌≡◌, ℕ, List, map, take}
use Rattle.core_print.specs.Labels.{label_text}
use Rattle.core_print.specs.Names.{name_text}
use Rattle.core_print.proofs.globals.labels.Given as goal

abbrev pub invariant-loop-name : goal.invariant-loop-name
invariant-loop-name l = (ns : List (List ℕ)) → map (label_text ns) l.labels.items ≡ map (name_text ns) (take l.name-index l.names)
