use Rattle.std.proofs.Common.{◌≡◌, ◌++◌}
use Rattle.std.specs.Prelude.{string_bytes}
use Rattle.core_print.specs.Labels.{base_text, primed}
use Rattle.core_print.proofs.page.write_label.Given as goal

abbrev pub invariant-loop-prime : goal.invariant-loop-prime
invariant-loop-prime l = string_bytes l.out ≡ string_bytes l.fn.out ++ primed (base_text l.names l.label.base) l._prime
