use Rattle.std.proofs.Common.{sym, subst}
use Rattle.tree_kernel.specs.Nodes.{Continues, JobIs, ReadsWaiting}
use Rattle.tree_kernel.specs.declared.job.Job as J
use Rattle.tree_kernel.proofs.Stacking.{node-waits}
use Rattle.tree_kernel.proofs.reader.Reader.step.Goals as goal

pub at_node-requires-clause-node : goal.at_node-requires-clause-node
at_node-requires-clause-node c = node-waits c.args.self.now c.in-Node.node (subst (JobIs c.args.self.now) c.in-Node.is c.requires.job)

pub returns-in-Node-clause-is : goal.returns-in-Node-clause-is
returns-in-Node-clause-is c = let x = c.args.self.now in subst (λ (j : J.Job). Continues x c.at_node.new.self (ReadsWaiting x j) c.at_node.result)
    (sym c.in-Node.is) c.at_node.ensures.is

pub returns-in-Fields-clause-is : goal.returns-in-Fields-clause-is
returns-in-Fields-clause-is c = let x = c.args.self.now in subst (λ (j : J.Job). Continues x c.at_fields.new.self (ReadsWaiting x j) c.at_fields.result)
    (sym c.in-Fields.is) c.at_fields.ensures.is

pub returns-in-Branches-clause-is : goal.returns-in-Branches-clause-is
returns-in-Branches-clause-is c = let x = c.args.self.now in subst (λ (j : J.Job). Continues x c.at_branches.new.self (ReadsWaiting x j) c.at_branches.result)
    (sym c.in-Branches.is) c.at_branches.ensures.is
