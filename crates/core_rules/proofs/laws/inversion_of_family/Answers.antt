-- The type of a family is convertible to its declared one.
use Rattle.core_rules.proofs.Typing.Inverted.{typing-fam}
use Rattle.core_rules.proofs.laws.inversion_of_family.Goals as goal

pub returns : goal.returns
returns c = λ g c d a h. typing-fam g c d a h
