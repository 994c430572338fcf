-- Typing is kept where the last function gets its clauses and tree.
use Rattle.core_rules.proofs.Signature.Closing.{typing-closing, closes}
use Rattle.core_rules.proofs.laws.typing_of_closed.Goals as goal

pub returns : goal.returns
returns c = λ g x a qs T c t b k. typing-closing _ _ (closes g x a qs T) k
