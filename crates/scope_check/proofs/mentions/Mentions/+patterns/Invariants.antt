use Rattle.std.proofs.Common.{◌≡◌, ◌++◌, map, drop}
use Rattle.scope_check.specs.Mentions as spec
use Rattle.scope_check.proofs.mentions.Mentions.+patterns.Given as goal

abbrev pub invariant-patterns-loop-one : goal.invariant-patterns-loop-one
invariant-patterns-loop-one l = l.fn.self ++ spec.all_of (map spec.in_pattern l.all) ≡ l.self ++ spec.all_of (map spec.in_pattern (drop l.one-index l.all))
