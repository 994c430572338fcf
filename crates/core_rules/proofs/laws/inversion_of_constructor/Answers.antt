-- What the typing of a constructor at parameters comes from.
use Rattle.core_rules.proofs.Typing.Inverted.{typing-con}
use Rattle.core_rules.proofs.laws.inversion_of_constructor.Goals as goal

pub returns : goal.returns
returns c = λ g c k ps a h. typing-con g c k ps a h
