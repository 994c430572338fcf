use Rattle.std.proofs.Common.{◌≡◌, ◌++◌, map, take}
use Rattle.core_print.proofs.globals.push_fields.Given as goal

abbrev pub invariant-loop-field : goal.invariant-loop-field
invariant-loop-field l = l.names.items ≡ l.fn.names.items ++ map (λ e. e.name) (take l.field-index l.fields)
