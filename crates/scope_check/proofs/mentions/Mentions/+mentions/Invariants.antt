use Rattle.std.proofs.Common.{◌≡◌, ◌++◌, map, drop}
use Rattle.scope_check.specs.Mentions as spec
use Rattle.scope_check.proofs.mentions.Mentions.+mentions.Given as goal

abbrev pub invariant-args-loop-one : goal.invariant-args-loop-one
invariant-args-loop-one l = l.fn.self ++ spec.all_of (map spec.in_arg l.all) ≡ l.self ++ spec.all_of (map spec.in_arg (drop l.one-index l.all))

abbrev pub invariant-binders-loop-one : goal.invariant-binders-loop-one
invariant-binders-loop-one l = l.fn.self ++ spec.all_of (map spec.in_binder l.all) ≡ l.self ++ spec.all_of (map spec.in_binder (drop l.one-index l.all))

abbrev pub invariant-values-loop-one : goal.invariant-values-loop-one
invariant-values-loop-one l = l.fn.self ++ spec.all_of (map spec.in_value l.all) ≡ l.self ++ spec.all_of (map spec.in_value (drop l.one-index l.all))
