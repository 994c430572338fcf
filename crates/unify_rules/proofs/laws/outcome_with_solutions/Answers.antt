-- The same with solutions.
use Rattle.unify_rules.proofs.WithSolutions.{with_solutions}
use Rattle.unify_rules.proofs.laws.outcome_with_solutions.Goals as goal

pub returns : goal.returns
returns c = λ g f fuel depth c es o i y d. with_solutions g f fuel depth c es o i y d
