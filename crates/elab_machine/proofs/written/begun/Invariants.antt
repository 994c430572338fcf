use Rattle.std.proofs.Common.{◌≡◌, map, take}
use Rattle.elab_machine.specs.Written.{outermost}
use Rattle.elab_machine.proofs.written.begun.Given as goal

abbrev pub invariant-loop-value : goal.invariant-loop-value
invariant-loop-value l = l.all.items ≡ map outermost (take l.value-index l.values)
