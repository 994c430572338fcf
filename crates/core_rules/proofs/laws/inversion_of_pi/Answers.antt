-- What the typing of a function type comes from.
use Rattle.core_rules.proofs.Typing.Inverted.{typing-pi}
use Rattle.core_rules.proofs.laws.inversion_of_pi.Goals as goal

pub returns : goal.returns
returns c = λ g c b x s t a h. typing-pi g c b x s t a h
