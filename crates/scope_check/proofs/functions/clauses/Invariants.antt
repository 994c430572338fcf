use Rattle.std.proofs.Common.{◌≡◌, [], map, length}
use Rattle.scope_check.specs.Decls as spec
use Rattle.scope_check.specs.Answers.{each_from}
use Rattle.scope_check.proofs.functions.clauses.Given as goal

abbrev pub invariant-loop-left : goal.invariant-loop-left
invariant-loop-left l = each_from [] (map (spec.clause l.scope l.function l.name) l.all) ≡ each_from l.found (map (spec.clause l.scope l.function l.name) l.left)

abbrev pub decreases-loop-left : goal.decreases-loop-left
decreases-loop-left l = length l.left
