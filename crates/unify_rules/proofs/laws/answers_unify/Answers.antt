-- The statement is the lemma.
use Rattle.unify_rules.proofs.Answered.{answers_unify}
use Rattle.unify_rules.proofs.laws.answers_unify.Goals as goal

pub returns : goal.returns
returns c = answers_unify
