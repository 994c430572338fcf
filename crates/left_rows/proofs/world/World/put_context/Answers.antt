use Rattle.core_rules.proofs.Heads.Same.{nothing_acyclic}
use Rattle.left_rows.proofs.world.World.put_context.Goals as goal

pub print_context-requires-clause-acyclic : goal.print_context-requires-clause-acyclic
print_context-requires-clause-acyclic c = nothing_acyclic
