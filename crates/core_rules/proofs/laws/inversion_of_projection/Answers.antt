-- What the typing of a projection comes from.
use Rattle.core_rules.proofs.Typing.Inverted.{typing-proj}
use Rattle.core_rules.proofs.laws.inversion_of_projection.Goals as goal

pub returns : goal.returns
returns c = λ g c f t a h. typing-proj g c f t a h
