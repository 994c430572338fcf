use Rattle.std.proofs.Common.{◌≡◌, drop}
use Rattle.std.specs.List.{list_any}
use Rattle.scope_check.specs.Patterns as spec
use Rattle.scope_check.proofs.patterns.+absurd.Given as goal

abbrev pub invariant-any_absurd-loop-one : goal.invariant-any_absurd-loop-one
invariant-any_absurd-loop-one l = list_any spec.is_absurd l.all ≡ list_any spec.is_absurd (drop l.one-index l.all)
