use Rattle.std.proofs.Common.{List, ℕ, subst}
use Rattle.file_load.specs.LoadedFile as loaded
use Rattle.elab_cli.proofs.Endings.{told_answers}
use Rattle.elab_cli.proofs.program.check.Goals as goal

pub returns-in-Bytes-clause-answers : goal.returns-in-Bytes-clause-answers
returns-in-Bytes-clause-answers g c =
    let judged : loaded.Answers c.args.limits.fuel c.args.limits.depth c.in-Bytes.text c.load-loaded.result = subst (λ (t : List ℕ). loaded.Answers c.args.limits.fuel c.args.limits.depth t c.load-loaded.result) c.as_slice.ensures c.load-loaded.ensures in
    told_answers c.args.limits _ _ _ _ _ _ _ c.in-Bytes.ensures.gives judged c.tell.ensures.told
