use Rattle.std.proofs.Common.{◌≡◌, take, map}
use Rattle.scope_check.specs.Exprs as spec
use Rattle.scope_check.proofs.names.labels.Given as goal

abbrev pub invariant-loop-name : goal.invariant-loop-name
invariant-loop-name l = l.found ≡ map (spec.label l.scope) (take l.name-index l.names)
