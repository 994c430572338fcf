-- A typing is kept under an environment that fits its context.
use Rattle.core_rules.proofs.Typing.Substituted.{typing-under}
use Rattle.core_rules.proofs.Typing.Closed.{have-shape}
use Rattle.core_rules.specs.InScope.{any_meta}
use Rattle.core_rules.proofs.laws.typing_of_environment.Goals as goal

pub returns : goal.returns
returns c = λ g s c es r t a k h. typing-under g any_meta s (have-shape g s) c es r t a k h
