use Rattle.std.proofs.Common.{◌≡◌, length}
use Rattle.scope_check.specs.Decls as spec
use Rattle.scope_table.specs.Known.{Grows}
use Rattle.scope_check.proofs.records.declare_fields.Given as goal

abbrev pub invariant-loop-left : goal.invariant-loop-left
invariant-loop-left l = record {
  grows : Grows l.fn.scope l.scope;
  rest : spec.with_fields l.fn.scope l.name l.all ≡ spec.with_fields l.scope l.name l.left;
}

abbrev pub decreases-loop-left : goal.decreases-loop-left
decreases-loop-left l = length l.left
