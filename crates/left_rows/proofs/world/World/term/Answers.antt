use Rattle.core_rules.proofs.Heads.Same.{nothing_acyclic}
use Rattle.left_rows.proofs.world.World.term.Goals as goal

pub print_term-requires-clause-acyclic : goal.print_term-requires-clause-acyclic
print_term-requires-clause-acyclic c = nothing_acyclic
