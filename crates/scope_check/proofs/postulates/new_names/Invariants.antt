use Rattle.std.proofs.Common.{◌≡◌, length}
use Rattle.scope_check.specs.Decls as spec
use Rattle.scope_check.proofs.postulates.new_names.Given as goal

abbrev pub invariant-loop-left : goal.invariant-loop-left
invariant-loop-left l = spec.new_names l.scope l.fn.seen l.all ≡ spec.new_names l.scope l.seen l.left

abbrev pub decreases-loop-left : goal.decreases-loop-left
decreases-loop-left l = length l.left
