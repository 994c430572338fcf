-- What the typing of an application comes from.
use Rattle.core_rules.proofs.Typing.Inverted.{typing-app}
use Rattle.core_rules.proofs.laws.inversion_of_application.Goals as goal

pub returns : goal.returns
returns c = λ g c b t u a h. typing-app g c b t u a h
