-- A change that is lifted under binders passes the shift by them.
use Rattle.core_rules.proofs.Substitution.Lifted.{over-shift}
use Rattle.core_rules.proofs.laws.change_of_shifted.Goals as goal

pub returns : goal.returns
returns c = λ f l n d t. over-shift f l n d t
