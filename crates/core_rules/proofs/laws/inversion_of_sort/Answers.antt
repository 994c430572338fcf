-- The type of a sort is convertible to the next sort.
use Rattle.core_rules.proofs.Typing.Inverted.{typing-sort}
use Rattle.core_rules.proofs.laws.inversion_of_sort.Goals as goal

pub returns : goal.returns
returns c = λ g c n a h. typing-sort g c n a h
