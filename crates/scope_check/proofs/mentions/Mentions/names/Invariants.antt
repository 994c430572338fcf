use Rattle.std.proofs.Common.{◌≡◌, ◌++◌, take}
use Rattle.scope_check.specs.Mentions as spec
use Rattle.scope_check.proofs.mentions.Mentions.names.Given as goal

abbrev pub invariant-loop-name : goal.invariant-loop-name
invariant-loop-name l = l.self ≡ l.fn.self ++ spec.texts (take l.name-index l.all)
