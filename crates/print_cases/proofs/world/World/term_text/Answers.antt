use Rattle.core_rules.proofs.Heads.Same.{nothing_acyclic}
use Rattle.print_cases.proofs.world.World.term_text.Goals as goal

pub print_term-requires-clause-acyclic : goal.print_term-requires-clause-acyclic
print_term-requires-clause-acyclic c = nothing_acyclic
