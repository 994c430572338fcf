use Rattle.std.proofs.Common.{◌≡◌, [], length}
use Rattle.scope_check.specs.Decls as spec
use Rattle.scope_check.proofs.families.con_lines.Given as goal

abbrev pub invariant-loop-left : goal.invariant-loop-left
invariant-loop-left l = record {
  locals : l.locals ≡ l.fn.locals;
  rest : spec.con_lines l.scope l.fn.locals [] l.all l.fn.seen ≡ spec.con_lines l.scope l.fn.locals l.found l.left l.seen;
}

abbrev pub decreases-loop-left : goal.decreases-loop-left
decreases-loop-left l = length l.left
