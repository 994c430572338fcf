use Rattle.std.proofs.Common.{refl}
use Rattle.data_elab.proofs.Entering.{entered}
use Rattle.data_elab.proofs.reader.Reader.enter.Goals as goal

pub returns-clause-enters : goal.returns-clause-enters
returns-clause-enters c =
    entered c.args.flag c.args.name c.args.ty c.in_ok-inner.inner c.requires.ready (record { same_reference = refl; extends = c.in_ok-inner.ensures.extends }) refl refl c.requires.ty c.in_ok-push.ensures.items c.in_ok-inner.ensures.is
