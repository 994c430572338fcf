use Rattle.std.specs.Prelude.{length}
use Rattle.lhs_elab.proofs.Naming.{NamedSo}
use Rattle.lhs_elab.proofs.constructors.name_arguments.Given as goal

abbrev pub invariant-loop-flags : goal.invariant-loop-flags
invariant-loop-flags l = record {
  so : NamedSo l.fn.arguments l.fn.written l.fn.patterns l.made.items l.hidden l.flags l.left l.others;
}

abbrev pub decreases-loop-flags : goal.decreases-loop-flags
decreases-loop-flags l = length l.flags
