-- The type of a variable is convertible to its entry's, shifted.
use Rattle.core_rules.proofs.Typing.Inverted.{typing-variable}
use Rattle.core_rules.proofs.laws.inversion_of_variable.Goals as goal

pub returns : goal.returns
returns c = λ g c i a h. typing-variable g c i a h
