-- Typing is kept as a signature goes on.
use Rattle.core_rules.proofs.Signature.Grown.{typing-grown}
use Rattle.core_rules.proofs.laws.typing_grows.Goals as goal

pub returns : goal.returns
returns c = λ g h s f c t a k. typing-grown g h s f k
