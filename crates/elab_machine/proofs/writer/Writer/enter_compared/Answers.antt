use Rattle.elab_machine.proofs.Kept.{ready_kept}
use Rattle.elab_machine.proofs.Entering.{entered_before}
use Rattle.elab_machine.proofs.writer.Writer.enter_compared.Goals as goal

pub enter-requires-clause-ready : goal.enter-requires-clause-ready
enter-requires-clause-ready c = ready_kept c.requires.ready c.in_ok-agree.ensures.grows c.in_ok-agree.ensures.keeps

pub returns-clause-is : goal.returns-clause-is
returns-clause-is c =
    (entered_before c.requires.ready c.in_ok-agree.ensures.grows c.in_ok-agree.ensures.keeps c.args.name c.args.ty c.args.more.now c.in_ok-enter.field-0 c.requires.ty c.in_ok-enter.ensures.enters, c.in_ok-agree.ensures.is)
