use Rattle.std.proofs.Common.{◌≡◌, [], length}
use Rattle.scope_check.specs.Decls as spec
use Rattle.scope_check.proofs.records.field_lines.Given as goal

abbrev pub invariant-loop-left : goal.invariant-loop-left
invariant-loop-left l = spec.field_lines l.scope [] l.all l.fn.parts ≡ spec.field_lines l.scope l.found l.left l.parts

abbrev pub decreases-loop-left : goal.decreases-loop-left
decreases-loop-left l = length l.left
