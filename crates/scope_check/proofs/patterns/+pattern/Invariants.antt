use Rattle.std.proofs.Common.{◌≡◌, [], drop}
use Rattle.scope_check.specs.Patterns as spec
use Rattle.scope_check.proofs.patterns.+pattern.Given as goal

abbrev pub invariant-patterns-loop-one : goal.invariant-patterns-loop-one
invariant-patterns-loop-one l = record {
  locals : l.locals ≡ l.fn.locals;
  left : spec.patterns l.scope l.fn.locals l.depth [] l.all l.fn.seen ≡ spec.patterns l.scope l.fn.locals l.depth l.found (drop l.one-index l.all) l.seen;
}
