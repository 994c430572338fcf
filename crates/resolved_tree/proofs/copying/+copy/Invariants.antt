use Rattle.std.proofs.Common.{◌≡◌, take}
use Rattle.resolved_tree.proofs.copying.+copy.Given as goal

abbrev pub invariant-copy_args-loop-one : goal.invariant-copy_args-loop-one
invariant-copy_args-loop-one l = l.found ≡ take l.one-index l.all

abbrev pub invariant-copy_binders-loop-one : goal.invariant-copy_binders-loop-one
invariant-copy_binders-loop-one l = l.found ≡ take l.one-index l.all

abbrev pub invariant-copy_values-loop-one : goal.invariant-copy_values-loop-one
invariant-copy_values-loop-one l = l.found ≡ take l.one-index l.all
