-- The statement is the lemma.
use Rattle.unify_rules.proofs.Answered.{exactly_one}
use Rattle.unify_rules.proofs.laws.exactly_one_answer.Goals as goal

pub returns : goal.returns
returns c = λ g fuel depth c es. exactly_one g fuel depth c es
