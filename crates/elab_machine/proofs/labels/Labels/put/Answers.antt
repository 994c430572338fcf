use Rattle.elab_machine.proofs.labels.Labels.put.Goals as goal

pub returns : goal.returns
returns c = λ y. rw (← c.number.ensures) (rw (← c.self.view_is) (c.in_ok-insert.ensures.updates.0 y))
