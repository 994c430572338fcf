-- A derivable signature with a known family is derivable.
use Rattle.core_rules.proofs.Signature.FamilyKnown.{known-derivable}
use Rattle.core_rules.proofs.laws.family_known_derivable.Goals as goal

pub returns : goal.returns
returns c = λ g d r w. known-derivable g d r w
