use Rattle.std.proofs.Common.{◌≡◌, [], drop}
use Rattle.scope_check.specs.Layers as layer
use Rattle.scope_table.specs.Known.{Inside}
use Rattle.scope_check.proofs.exprs.+expr.Given as goal

abbrev pub invariant-args-loop-one : goal.invariant-args-loop-one
invariant-args-loop-one l = record {
  locals : l.locals ≡ l.fn.locals;
  left : layer.args l.scope l.holes l.fn.locals [] l.all ≡ layer.args l.scope l.holes l.fn.locals l.found (drop l.one-index l.all);
}

abbrev pub invariant-values-loop-one : goal.invariant-values-loop-one
invariant-values-loop-one l = record {
  locals : l.locals ≡ l.fn.locals;
  left : layer.values l.scope l.holes l.fn.locals [] l.all ≡ layer.values l.scope l.holes l.fn.locals l.found (drop l.one-index l.all);
}

abbrev pub invariant-binders-loop-one : goal.invariant-binders-loop-one
invariant-binders-loop-one l = record {
  inside : Inside l.fn.locals l.locals;
  left : layer.binders l.scope l.holes [] l.fn.locals l.all ≡ layer.binders l.scope l.holes l.found l.locals (drop l.one-index l.all);
}
