use Rattle.std.proofs.Common.{◌≡◌, length}
use Rattle.scope_check.specs.Decls as spec
use Rattle.scope_table.specs.Known.{Grows}
use Rattle.scope_check.proofs.opens.open_fields.Given as goal

abbrev pub invariant-loop-left : goal.invariant-loop-left
invariant-loop-left l = record {
  grows : Grows l.fn.scope l.scope;
  rest : spec.open_fields l.name l.first l.all l.fn.scope ≡ spec.open_fields l.name l.field l.left l.scope;
}

abbrev pub decreases-loop-left : goal.decreases-loop-left
decreases-loop-left l = length l.left
