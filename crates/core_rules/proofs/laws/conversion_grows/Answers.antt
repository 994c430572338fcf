-- Conversion is kept as a signature goes on.
use Rattle.core_rules.proofs.Signature.Grown.{conv-grown}
use Rattle.core_rules.proofs.laws.conversion_grows.Goals as goal

pub returns : goal.returns
returns c = λ g h s f t u k. conv-grown g h s f k
