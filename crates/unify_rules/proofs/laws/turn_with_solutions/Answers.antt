-- A turn with solutions.
use Rattle.unify_rules.proofs.WithSolutions.{turn_by}
use Rattle.unify_rules.proofs.laws.turn_with_solutions.Goals as goal

pub returns : goal.returns
returns c = λ g s f fuel depth ts t u es ss v w n m q r x a h k c d. turn_by g s f fuel depth ts t u es ss v w n m q r x a h k c d
