use Rattle.core_rules.proofs.Heads.Same.{nothing_acyclic}
use Rattle.elab_machine.proofs.writer.Writer.need_for.Goals as goal

pub next_argument-requires-clause-acyclic : goal.next_argument-requires-clause-acyclic
next_argument-requires-clause-acyclic c = nothing_acyclic
