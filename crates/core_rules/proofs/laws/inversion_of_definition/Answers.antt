-- The type of a postulate or function is convertible to its declared one.
use Rattle.core_rules.proofs.Typing.Inverted.{typing-def}
use Rattle.core_rules.proofs.laws.inversion_of_definition.Goals as goal

pub returns : goal.returns
returns c = λ g c f a h. typing-def g c f a h
