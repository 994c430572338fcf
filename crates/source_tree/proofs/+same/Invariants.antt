use Rattle.std.specs.List.{SameBelow}
use Rattle.source_tree.proofs.+same.Given as goal

abbrev pub invariant-equality::same_binders-loop-i : goal.invariant-equality::same_binders-loop-i
invariant-equality::same_binders-loop-i l = SameBelow l.binders l.others l.i

abbrev pub invariant-equality::same_args-loop-i : goal.invariant-equality::same_args-loop-i
invariant-equality::same_args-loop-i l = SameBelow l.args l.others l.i

abbrev pub invariant-equality::same_fields-loop-i : goal.invariant-equality::same_fields-loop-i
invariant-equality::same_fields-loop-i l = SameBelow l.fields l.others l.i
