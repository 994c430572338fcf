-- Without solutions a signature stays as it is.
use Rattle.core_rules.proofs.Heads.NoSolutions.{signature_same}
use Rattle.core_rules.proofs.bounded_laws.nothing_to_replace_in_signature.Goals as goal

pub returns : goal.returns
returns c = λ g. signature_same g
