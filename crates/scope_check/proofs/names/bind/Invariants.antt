use Rattle.std.proofs.Common.{◌≡◌, take}
use Rattle.scope_check.specs.Exprs as spec
use Rattle.scope_check.proofs.names.bind.Given as goal

abbrev pub invariant-loop-name : goal.invariant-loop-name
invariant-loop-name l = l.locals ≡ spec.under l.fn.locals (take l.name-index l.names)
