-- What the typing of a lambda comes from.
use Rattle.core_rules.proofs.Typing.Inverted.{typing-lam}
use Rattle.core_rules.proofs.laws.inversion_of_lambda.Goals as goal

pub returns : goal.returns
returns c = λ g c b x s t a h. typing-lam g c b x s t a h
