use Rattle.std.proofs.Common.{◌≡◌, length}
use Rattle.scope_check.specs.Decls as spec
use Rattle.scope_table.specs.Known.{Grows}
use Rattle.scope_check.specs.Mentions.{texts}
use Rattle.scope_check.proofs.postulates.declare_defs.Given as goal

abbrev pub invariant-loop-left : goal.invariant-loop-left
invariant-loop-left l = record {
  grows : Grows l.fn.scope l.scope;
  rest : spec.with_defs l.fn.scope (texts l.all) ≡ spec.with_defs l.scope (texts l.left);
}

abbrev pub decreases-loop-left : goal.decreases-loop-left
decreases-loop-left l = length l.left
