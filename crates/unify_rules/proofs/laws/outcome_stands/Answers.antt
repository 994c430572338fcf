-- Each state has an answer.
use Rattle.unify_rules.proofs.Ends.{unify_stands}
use Rattle.unify_rules.proofs.laws.outcome_stands.Goals as goal

pub returns : goal.returns
returns c = λ g fuel depth s. unify_stands g fuel depth s
