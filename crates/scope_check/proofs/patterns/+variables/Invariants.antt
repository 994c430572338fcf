use Rattle.std.proofs.Common.{◌≡◌, map, drop}
use Rattle.scope_check.specs.Mentions.{all_of}
use Rattle.scope_check.specs.Patterns as spec
use Rattle.scope_check.proofs.patterns.+variables.Given as goal

abbrev pub invariant-all_variables-loop-one : goal.invariant-all_variables-loop-one
invariant-all_variables-loop-one l = spec.inside l.fn.locals (all_of (map (spec.variables l.scope) l.all)) ≡ spec.inside l.locals (all_of (map (spec.variables l.scope) (drop l.one-index l.all)))
