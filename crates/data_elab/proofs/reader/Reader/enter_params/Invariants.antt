use Rattle.std.proofs.Common.{length}
use Rattle.data_rules.specs.Rules.{params}
use Rattle.data_elab.specs.Reader.{Grows, values_of}
use Rattle.data_elab.specs.Params.{binders_in}
use Rattle.data_elab.proofs.Entering.{AreRead}
use Rattle.data_elab.proofs.reader.Reader.enter_params.Given as goal

abbrev pub invariant-loop-left : goal.invariant-loop-left
invariant-loop-left l = record {
  grows : Grows l.fn.self l.self;
  read : AreRead l.fn.self l.self (params (binders_in l.fn.self l.left) (values_of l.self)) (params (binders_in l.fn.self l.binders) (values_of l.fn.self));
}

abbrev pub decreases-loop-left : goal.decreases-loop-left
decreases-loop-left l = length l.left
