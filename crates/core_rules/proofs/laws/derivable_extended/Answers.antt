-- A derivable signature with a further declaration that is good over it is derivable.
use Rattle.core_rules.proofs.Signature.Growth.{derivable-extended}
use Rattle.core_rules.proofs.laws.derivable_extended.Goals as goal

pub returns : goal.returns
returns c = λ g d r h m. derivable-extended g d r h m
