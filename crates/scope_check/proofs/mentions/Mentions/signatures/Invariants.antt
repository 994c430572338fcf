use Rattle.std.proofs.Common.{◌≡◌, ◌++◌, map, drop}
use Rattle.scope_check.specs.Mentions as spec
use Rattle.scope_check.proofs.mentions.Mentions.signatures.Given as goal

abbrev pub invariant-loop-one : goal.invariant-loop-one
invariant-loop-one l = l.fn.self ++ spec.all_of (map spec.in_signature l.all) ≡ l.self ++ spec.all_of (map spec.in_signature (drop l.one-index l.all))
