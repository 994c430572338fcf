use Rattle.source_tree.specs.Nodes.{arg_nodes, binder_nodes, field_nodes}
use Rattle.source_tree.proofs.Lists.{IsSumBefore}
use Rattle.source_tree.proofs.+size.Given as goal

abbrev pub invariant-nodes::size_of_binders-loop-binder : goal.invariant-nodes::size_of_binders-loop-binder
invariant-nodes::size_of_binders-loop-binder l = IsSumBefore binder_nodes l.binders l.binder-index l.size

abbrev pub invariant-nodes::size_of_args-loop-arg : goal.invariant-nodes::size_of_args-loop-arg
invariant-nodes::size_of_args-loop-arg l = IsSumBefore arg_nodes l.args l.arg-index l.size

abbrev pub invariant-nodes::size_of_fields-loop-field : goal.invariant-nodes::size_of_fields-loop-field
invariant-nodes::size_of_fields-loop-field l = IsSumBefore field_nodes l.fields l.field-index l.size
