-- Typing is kept under convertible contexts.
use Rattle.core_rules.proofs.Typing.Fitting.{typing-converted}
use Rattle.core_rules.proofs.laws.typing_of_convertible_context.Goals as goal

pub returns : goal.returns
returns c = λ g x d t a m h. typing-converted g m h
