use Rattle.std.proofs.Common.{arith}
use Rattle.source_tree.specs.Nodes.{arg_nodes, binder_nodes, field_nodes}
use Rattle.source_tree.proofs.Lists.{summed_throughout}
use Rattle.source_tree.proofs.+size.Goals as goal

pub nodes::size_of_args-returns : goal.nodes::size_of_args-returns
nodes::size_of_args-returns t c = summed_throughout arg_nodes c.args.args.now c.loop-arg.arg-index c.loop-arg.size c.loop-arg.invariant (omega arith)

pub nodes::size_of_binders-returns : goal.nodes::size_of_binders-returns
nodes::size_of_binders-returns t c = summed_throughout binder_nodes c.args.binders.now c.loop-binder.binder-index c.loop-binder.size c.loop-binder.invariant (omega arith)

pub nodes::size_of_fields-returns : goal.nodes::size_of_fields-returns
nodes::size_of_fields-returns t c = summed_throughout field_nodes c.args.fields.now c.loop-field.field-index c.loop-field.size c.loop-field.invariant (omega arith)
